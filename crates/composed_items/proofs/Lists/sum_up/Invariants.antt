-- `composed_items::Lists::sum_up` meets its contract. Assumes nothing.
use Rattle.composed_items.specs.Composed.{items_in, item_wire}
use Rattle.composed_items.proofs.Loops.{Summing}
use Rattle.composed_items.proofs.Lists.sum_up.Given as goal

abbrev pub invariant-loop-i : goal.invariant-loop-i
invariant-loop-i l =
    Summing (item_wire l.is_event l.self) (items_in l.self l.count) l.most l.i l.sum
