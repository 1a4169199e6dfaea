-- `mesh_c::frame::seal_numbers` meets its contract. Assumes nothing.
use mathlib.Core.Path.{sym, ap, ◌∙◌}
use Rattle.base.specs.Answers.{out_of, refused}
use Rattle.sealing.specs.Mesh.{mesh_sealed, seal_of}
use Rattle.packets.specs.declared.mesh.MeshPacket.{MeshPacket}
use Rattle.packets.specs.declared.mesh.MeshRead.{MeshRead}
use Rattle.packets.specs.declared.mesh.MeshRead.TheVariants.{Refused as NoMesh}
use Rattle.mesh_c.specs.Face.{if_mesh, numbers_sealed, numbers_seal}
use Rattle.mesh_c.proofs.frame.seal_numbers.Goals as goal

pub returns-in-Refused : goal.returns-in-Refused
unfolding numbers_sealed numbers_seal out_of
returns-in-Refused c =
    let a = c.args in
    let e = sym c.in-Refused.is ∙ c.mesh_of.ensures in record { answer = ap (if_mesh (λ (p : MeshPacket). mesh_sealed a.key.0 a.lent.now p p.payload a.out.now) NoMesh) e; out = ap (λ (m : MeshRead). out_of (if_mesh (λ (p : MeshPacket). seal_of a.key.0 a.lent.now p.payload) refused m) a.out.now) e }

pub returns-in-Mesh : goal.returns-in-Mesh
unfolding numbers_sealed numbers_seal
returns-in-Mesh c =
    let a = c.args in
    let e = sym c.in-Mesh.is ∙ c.mesh_of.ensures in
    record { answer = c.encrypt.ensures.answer ∙ ap (if_mesh (λ (p : MeshPacket). mesh_sealed a.key.0 a.lent.now p p.payload a.out.now) NoMesh) e; out = c.encrypt.ensures.bytes ∙ ap (λ (m : MeshRead). out_of (if_mesh (λ (p : MeshPacket). seal_of a.key.0 a.lent.now p.payload) refused m) a.out.now) e }
