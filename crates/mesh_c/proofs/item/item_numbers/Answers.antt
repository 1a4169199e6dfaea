-- `mesh_c::item::item_numbers` meets its contract. Assumes nothing.
use Rattle.mesh_c.proofs.item.item_numbers.Goals as goal

pub returns : goal.returns
returns c = rw (c.from_u8.ensures, c.to_byte.ensures, c.from_u8-2.ensures)
