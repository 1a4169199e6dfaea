-- `composed_items::Lists::put` meets its contract. Assumes nothing.
use lib.ListN.{drop}
use Rattle.base.specs.Lists.{joined}
use Rattle.wire.proofs.Laws.Lay.{Joining}
use Rattle.composed_items.specs.Composed.{items_in, item_wire, composed_bytes}
use Rattle.composed_items.proofs.Lists.put.Given as goal

abbrev pub invariant-loop-i : goal.invariant-loop-i
invariant-loop-i l =
    Joining l.initial.out l.at (composed_bytes l.is_event l.self l.count) l.out l.o (joined (item_wire l.is_event l.self) (drop l.i (items_in l.self l.count)))
