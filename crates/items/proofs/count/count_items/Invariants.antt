-- `items::count::count_items` meets its contract. Assumes nothing.
use mathlib.Core.Path.{◌≡◌}
use Rattle.items.proofs.Loop.{Sofar}
use Rattle.items.proofs.count.count_items.Given as goal

abbrev pub invariant-loop-read : goal.invariant-loop-read
invariant-loop-read l =
    (goal.iterator-loop-read).can_next l.read-iterator × (goal.iterator-loop-read).is_finite l.read-iterator
    × (l.read-iterator.is_event ≡ l.is_event) × (l.read-iterator.payload.now ≡ l.payload) × Sofar l.is_event l.payload l.read-iterator.at l.all
