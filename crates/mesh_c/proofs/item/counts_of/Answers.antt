-- `mesh_c::item::counts_of` meets its contract. Assumes nothing.
use Rattle.mesh_c.proofs.item.counts_of.Goals as goal

pub returns : goal.returns
returns c = rw c.from_bool.ensures
