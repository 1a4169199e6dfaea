-- `mesh_c::key::mesh_mac` meets its contract. Assumes nothing.
use Rattle.mesh_c.proofs.key.mesh_mac.Goals as goal

pub returns : goal.returns
returns c = c.tag-r.ensures
