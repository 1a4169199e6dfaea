-- `mesh_c::item::decoded` meets its contract. Assumes nothing.
use Rattle.mesh_c.proofs.item.decoded.Goals as goal

pub returns-then-is_event : goal.returns-then-is_event
returns-then-is_event c = rw c.if-is_event.true c.decode.ensures

pub returns : goal.returns
returns c = rw c.if-is_event.false c.decode-2.ensures
