-- `mesh_c::frame::validate_numbers` meets its contract. Assumes nothing.
use mathlib.Core.Path.{sym, ap, ◌∙◌}
use mir.Facts.{to_z-of_z}
use Rattle.fips197.specs.Aes.{aes}
use Rattle.mic.specs.Mic.{validate_mic}
use Rattle.mic.specs.declared.Validated.TheVariants.{Refused as NotValidated}
use Rattle.mesh_c.specs.Face.{if_mesh, numbers_valid}
use Rattle.mesh_c.proofs.frame.validate_numbers.Goals as goal

pub returns-in-Refused : goal.returns-in-Refused
unfolding numbers_valid
returns-in-Refused c =
    let a = c.args in
    ap (if_mesh (validate_mic (aes a.key.0) a.lent.now) NotValidated) (sym c.in-Refused.is ∙ (rw (to_z-of_z c.ranges.rssi, to_z-of_z c.ranges.snr) at c.mesh_of.ensures))

pub returns-in-Mesh : goal.returns-in-Mesh
unfolding numbers_valid
returns-in-Mesh c =
    let a = c.args in
    c.validate_mic.ensures ∙ ap (if_mesh (validate_mic (aes a.key.0) a.lent.now) NotValidated) (sym c.in-Mesh.is ∙ (rw (to_z-of_z c.ranges.rssi, to_z-of_z c.ranges.snr) at c.mesh_of.ensures))
