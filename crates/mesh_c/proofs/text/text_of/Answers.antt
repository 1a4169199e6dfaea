-- `mesh_c::text::text_of` meets its contract. Assumes nothing.
use mathlib.Core.Path.{sym, ap, ◌∙◌}
use Rattle.base.specs.Answers.{bytes, answer_of, out_of, refused}
use Rattle.dump.specs.Dump.{mesh_text}
use Rattle.packets.specs.declared.mesh.MeshPacket.{MeshPacket}
use Rattle.packets.specs.declared.mesh.MeshRead.{MeshRead}
use Rattle.mesh_c.specs.Face.{if_mesh, numbers_text}
use Rattle.mesh_c.proofs.text.text_of.Goals as goal

pub returns-in-Refused : goal.returns-in-Refused
unfolding numbers_text answer_of out_of
returns-in-Refused c =
    let a = c.args in
    let e = sym c.in-Refused.is ∙ c.mesh_of.ensures in record { answer = ap (λ (m : MeshRead). answer_of (if_mesh (λ (p : MeshPacket). bytes (mesh_text p)) refused m) a.out.now) e; out = ap (λ (m : MeshRead). out_of (if_mesh (λ (p : MeshPacket). bytes (mesh_text p)) refused m) a.out.now) e }

pub returns-in-Mesh : goal.returns-in-Mesh
unfolding numbers_text
returns-in-Mesh c =
    let a = c.args in
    let e = sym c.in-Mesh.is ∙ c.mesh_of.ensures in
    record { answer = c.write_text.ensures.answer ∙ ap (λ (m : MeshRead). answer_of (if_mesh (λ (p : MeshPacket). bytes (mesh_text p)) refused m) a.out.now) e; out = c.write_text.ensures.bytes ∙ ap (λ (m : MeshRead). out_of (if_mesh (λ (p : MeshPacket). bytes (mesh_text p)) refused m) a.out.now) e }
