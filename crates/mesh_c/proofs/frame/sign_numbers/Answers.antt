-- `mesh_c::frame::sign_numbers` meets its contract. Assumes nothing.
use mathlib.Core.Path.{sym, ap, ◌∙◌}
use mir.Facts.{to_z-of_z}
use Rattle.fips197.specs.Aes.{aes}
use Rattle.mic.specs.Mic.{set_mic}
use Rattle.packets.specs.declared.mesh.MeshRead.TheVariants.{Refused as NoMesh}
use Rattle.mesh_c.specs.Face.{if_mesh, numbers_signed}
use Rattle.mesh_c.proofs.frame.sign_numbers.Goals as goal

pub returns-in-Refused : goal.returns-in-Refused
unfolding numbers_signed
returns-in-Refused c =
    let a = c.args in
    ap (if_mesh (set_mic (aes a.key.0) a.lent.now) NoMesh) (sym c.in-Refused.is ∙ (rw (to_z-of_z c.ranges.rssi, to_z-of_z c.ranges.snr) at c.mesh_of.ensures))

pub returns-in-Mesh : goal.returns-in-Mesh
unfolding numbers_signed
returns-in-Mesh c =
    let a = c.args in
    c.set_mic.ensures ∙ ap (if_mesh (set_mic (aes a.key.0) a.lent.now) NoMesh) (sym c.in-Mesh.is ∙ (rw (to_z-of_z c.ranges.rssi, to_z-of_z c.ranges.snr) at c.mesh_of.ensures))
