-- `mesh_c::frame::mesh_sign` meets its contract. Assumes nothing.
use mathlib.Core.Path.{ap, ◌∙◌}
use mir.Facts.{to_z-of_z}
use Rattle.base.specs.Answers.{number_in}
use Rattle.packets.specs.Read.{mesh_says}
use Rattle.packets.specs.declared.mesh.MeshRead.{MeshRead}
use Rattle.fips197.specs.Aes.{aes}
use Rattle.keys.specs.declared.Aes128Key.{Aes128Key}
use Rattle.mesh_c.specs.Face.{numbers_signed, signed_left}
use Rattle.mesh_c.proofs.frame.mesh_sign.Goals as goal

pub returns : goal.returns
returns c =
    let a = c.args in
    let s = (rw (to_z-of_z c.ranges.rssi, to_z-of_z c.ranges.snr) at c.sign_numbers-read.ensures) ∙ ap (λ (k : Aes128Key). numbers_signed (aes k.0) a.lent.now a.numbers.now a.rssi a.snr) c.from_bytes.ensures in record { answer = c.put_signed.ensures.answer ∙ ap (λ (m : MeshRead). number_in (mesh_says m)) s; numbers = c.put_signed.ensures.numbers ∙ ap (λ (m : MeshRead). signed_left a.numbers.now (mesh_says m)) s }
