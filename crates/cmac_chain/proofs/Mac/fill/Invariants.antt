-- `cmac_chain::Mac::fill` meets its contract. Assumes nothing.
use Prim.Native.Nat.{◌+◌}
use mathlib.Core.List.{foldl}
use lib.ListN.{drop}
use Rattle.cmac_chain.specs.inner.State.{fill1}
use mathlib.Core.Path.{◌≡◌}
use Rattle.cmac_chain.proofs.Mac.fill.Given as goal

abbrev pub invariant-loop-b : goal.invariant-loop-b
invariant-loop-b l = (l.m.count ≡ l.initial.m.count + l.b-index) × (foldl fill1 l.initial.m l.s ≡ foldl fill1 l.m (drop l.b-index l.s))
