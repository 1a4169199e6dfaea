-- `kept_items::put_kept` meets its contract. Assumes nothing.
use mathlib.Core.Path.{◌≡◌}
use Rattle.kept_items.proofs.Loop.{Sofar}
use Rattle.kept_items.proofs.put_kept.Given as goal

abbrev pub invariant-loop-read : goal.invariant-loop-read
invariant-loop-read l =
    (goal.iterator-loop-read).can_next l.read-iterator × (goal.iterator-loop-read).is_finite l.read-iterator
    × (l.read-iterator.is_event ≡ l.is_event) × (l.read-iterator.payload.now ≡ l.payload)
    × Sofar l.is_event l.payload l.initial.out l.at l.out l.read-iterator.at l.o
