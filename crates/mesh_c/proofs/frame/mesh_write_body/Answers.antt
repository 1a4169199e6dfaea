-- `mesh_c::frame::mesh_write_body` meets its contract. Assumes nothing.
use mathlib.Core.Path.{ap, ◌∙◌}
use mir.Facts.{to_z-of_z}
use Rattle.base.specs.Answers.{number_in, left_by, written_says}
use Rattle.base.specs.declared.Written.{Written}
use Rattle.mesh_c.specs.Face.{as_it_is}
use Rattle.mesh_c.proofs.frame.mesh_write_body.Goals as goal

pub returns : goal.returns
returns c =
    let a = c.args in
    let s = rw (to_z-of_z c.ranges.rssi, to_z-of_z c.ranges.snr) at c.write_alone.ensures.answer in
    let t = rw (to_z-of_z c.ranges.rssi, to_z-of_z c.ranges.snr) at c.write_alone.ensures.out in
    record { answer = c.put_length.ensures.answer ∙ ap (λ (x : Written). number_in (written_says x)) s; out = t; length = c.put_length.ensures.length ∙ ap (λ (x : Written). left_by as_it_is a.length.now (written_says x)) s }
