-- `mesh_c::frame::mesh_validate` meets its contract. Assumes nothing.
use mathlib.Core.Path.{sym, ap, ◌∙◌}
use mir.Facts.{to_z-of_z}
use Rattle.base.specs.Answers.{number_in, left_by}
use Rattle.fips197.specs.Aes.{aes}
use Rattle.keys.specs.declared.Aes128Key.{Aes128Key}
use Rattle.mic.specs.Mic.{valid_says}
use Rattle.mic.specs.declared.Validated.{Validated}
use Rattle.numbers.specs.Numbers.{bit}
use Rattle.mesh_c.specs.Face.{numbers_valid}
use Rattle.mesh_c.proofs.frame.mesh_validate.Goals as goal

pub returns-in-Valid : goal.returns-in-Valid
returns-in-Valid c =
    let a = c.args in
    let s = sym c.in-Valid.is ∙ (rw (to_z-of_z c.ranges.rssi, to_z-of_z c.ranges.snr) at c.validate_numbers.ensures) ∙ ap (λ (k : Aes128Key). numbers_valid (aes k.0) a.lent.now a.numbers.now a.rssi a.snr) c.from_bytes.ensures in record { answer = ap (λ (v : Validated). number_in (valid_says v)) s; valid = ap (λ (v : Validated). left_by bit a.valid.now (valid_says v)) s }

pub returns-in-Invalid : goal.returns-in-Invalid
returns-in-Invalid c =
    let a = c.args in
    let s = sym c.in-Invalid.is ∙ (rw (to_z-of_z c.ranges.rssi, to_z-of_z c.ranges.snr) at c.validate_numbers.ensures) ∙ ap (λ (k : Aes128Key). numbers_valid (aes k.0) a.lent.now a.numbers.now a.rssi a.snr) c.from_bytes.ensures in record { answer = ap (λ (v : Validated). number_in (valid_says v)) s; valid = ap (λ (v : Validated). left_by bit a.valid.now (valid_says v)) s }

pub returns-in-Refused : goal.returns-in-Refused
returns-in-Refused c =
    let a = c.args in
    let s = sym c.in-Refused.is ∙ (rw (to_z-of_z c.ranges.rssi, to_z-of_z c.ranges.snr) at c.validate_numbers.ensures) ∙ ap (λ (k : Aes128Key). numbers_valid (aes k.0) a.lent.now a.numbers.now a.rssi a.snr) c.from_bytes.ensures in record { answer = ap (λ (v : Validated). number_in (valid_says v)) s; valid = ap (λ (v : Validated). left_by bit a.valid.now (valid_says v)) s }
