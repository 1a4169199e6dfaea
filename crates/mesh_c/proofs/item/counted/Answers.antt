-- `mesh_c::item::counted` meets its contract. Assumes nothing.
use Rattle.mesh_c.proofs.item.counted.Goals as goal

pub returns-then-is_event : goal.returns-then-is_event
returns-then-is_event c = rw c.if-is_event.true c.count.ensures

pub returns : goal.returns
returns c = rw c.if-is_event.false c.count-2.ensures
