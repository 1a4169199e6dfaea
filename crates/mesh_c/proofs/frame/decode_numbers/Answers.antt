-- `mesh_c::frame::decode_numbers` meets its contract. Assumes nothing.
use mathlib.Core.Path.{sym, ap, ◌∙◌}
use Rattle.sealing.specs.Mesh.{mesh_decoded}
use Rattle.packets.specs.declared.mesh.MeshPacket.{MeshPacket}
use Rattle.sealing.specs.declared.mesh.MeshOpened.TheVariants.{Refused as NotOpened}
use Rattle.mesh_c.specs.Face.{if_mesh, numbers_decoded}
use Rattle.mesh_c.proofs.frame.decode_numbers.Goals as goal

pub returns-in-Refused : goal.returns-in-Refused
unfolding numbers_decoded
returns-in-Refused c =
    let a = c.args in
    ap (if_mesh (λ (p : MeshPacket). mesh_decoded p p.payload a.frame.now a.work.now) NotOpened) (sym c.in-Refused.is ∙ c.mesh_of.ensures)

pub returns-in-Mesh : goal.returns-in-Mesh
unfolding numbers_decoded
returns-in-Mesh c =
    let a = c.args in
    c.decode.ensures ∙ ap (if_mesh (λ (p : MeshPacket). mesh_decoded p p.payload a.frame.now a.work.now) NotOpened) (sym c.in-Mesh.is ∙ c.mesh_of.ensures)
