-- `mesh_c::frame::write_alone` meets its contract. Assumes nothing.
use mathlib.Core.Path.{sym, ap, ◌∙◌}
use mir.Facts.{to_z-of_z}
use Rattle.base.specs.Answers.{answer_of, out_of, refused}
use Rattle.links.specs.Write.{limited_of}
use Rattle.packets.specs.Write.{payload_wire}
use Rattle.packets.specs.declared.mesh.MeshPacket.{MeshPacket}
use Rattle.packets.specs.declared.mesh.MeshRead.{MeshRead}
use Rattle.mesh_c.specs.Face.{if_mesh, numbers_body}
use Rattle.mesh_c.proofs.frame.write_alone.Goals as goal

pub returns-in-Refused : goal.returns-in-Refused
unfolding numbers_body answer_of out_of
returns-in-Refused c =
    let a = c.args in
    let e = sym c.in-Refused.is ∙ (rw (to_z-of_z c.ranges.rssi, to_z-of_z c.ranges.snr) at c.mesh_of.ensures) in record { answer = ap (λ (m : MeshRead). answer_of (if_mesh (λ (p : MeshPacket). limited_of (payload_wire a.lent.now p.payload)) refused m) a.out.now) e; out = ap (λ (m : MeshRead). out_of (if_mesh (λ (p : MeshPacket). limited_of (payload_wire a.lent.now p.payload)) refused m) a.out.now) e }

pub returns-in-Mesh : goal.returns-in-Mesh
unfolding numbers_body
returns-in-Mesh c =
    let a = c.args in
    let e = sym c.in-Mesh.is ∙ (rw (to_z-of_z c.ranges.rssi, to_z-of_z c.ranges.snr) at c.mesh_of.ensures) in
    record { answer = c.write_payload.ensures.answer ∙ ap (λ (m : MeshRead). answer_of (if_mesh (λ (p : MeshPacket). limited_of (payload_wire a.lent.now p.payload)) refused m) a.out.now) e; out = c.write_payload.ensures.out ∙ ap (λ (m : MeshRead). out_of (if_mesh (λ (p : MeshPacket). limited_of (payload_wire a.lent.now p.payload)) refused m) a.out.now) e }
