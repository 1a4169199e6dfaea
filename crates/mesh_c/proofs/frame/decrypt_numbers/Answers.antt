-- `mesh_c::frame::decrypt_numbers` meets its contract. Assumes nothing.
use mathlib.Core.Path.{sym, ap, ◌∙◌}
use Prim.Native.Nat.{ℕ}
use Rattle.sealing.specs.Mesh.{mesh_decrypted, mesh_work}
use Rattle.packets.specs.declared.mesh.MeshPacket.{MeshPacket}
use Rattle.sealing.specs.declared.mesh.MeshOpened.TheVariants.{Refused as NotOpened}
use Rattle.mesh_c.specs.Face.{if_mesh, numbers_decrypted, numbers_work}
use Rattle.mesh_c.proofs.frame.decrypt_numbers.Goals as goal

pub returns-in-Refused : goal.returns-in-Refused
unfolding numbers_decrypted numbers_work
returns-in-Refused c =
    let a = c.args in
    let e = sym c.in-Refused.is ∙ c.mesh_of.ensures in record { answer = ap (if_mesh (λ (p : MeshPacket). mesh_decrypted a.key.0 p p.payload a.frame.now a.work.now) NotOpened) e; work = ap (if_mesh (λ (p : MeshPacket). mesh_work a.key.0 p.payload a.frame.now a.work.now) (λ (n : ℕ). a.work.now)) e }

pub returns-in-Mesh : goal.returns-in-Mesh
unfolding numbers_decrypted numbers_work
returns-in-Mesh c =
    let a = c.args in
    let e = sym c.in-Mesh.is ∙ c.mesh_of.ensures in
    record { answer = c.decrypt.ensures.answer ∙ ap (if_mesh (λ (p : MeshPacket). mesh_decrypted a.key.0 p p.payload a.frame.now a.work.now) NotOpened) e; work = c.decrypt.ensures.work ∙ ap (if_mesh (λ (p : MeshPacket). mesh_work a.key.0 p.payload a.frame.now a.work.now) (λ (n : ℕ). a.work.now)) e }
