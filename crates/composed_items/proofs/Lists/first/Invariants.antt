-- `composed_items::Lists::first` meets its contract. Assumes nothing.
use Prim.Native.Nat.{ℕ}
use mathlib.Core.Path.{◌≡◌}
use Rattle.base.proofs.Lists.{Passed}
use Rattle.composed_items.specs.Composed.{items_in}
use Rattle.composed_items.specs.declared.Composed.{Composed}
use Rattle.composed_items.proofs.Lists.first.Given as goal

abbrev pub invariant-loop-i : goal.invariant-loop-i
invariant-loop-i g l =
    (f : Composed → ℕ) → ((it : Composed) (r : ℕ) → goal.F-post g l.fault it r → r ≡ f it) → Passed f (items_in l.self l.count) l.i
