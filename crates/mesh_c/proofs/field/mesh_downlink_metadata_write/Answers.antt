-- `mesh_c::field::mesh_downlink_metadata_write` meets its contract. Assumes nothing.
use mathlib.Core.Path.{sym, ap, ◌∙◌}
use Rattle.base.specs.Answers.{number_in, left_by, checked_says}
use Rattle.base.specs.declared.Checked.{Checked}
use Rattle.fields.specs.declared.meta.DownlinkBytes.{DownlinkBytes}
use Rattle.mesh_c.specs.Face.{as_it_is}
use Rattle.mesh_c.proofs.field.mesh_downlink_metadata_write.Goals as goal

pub returns-in-Refused : goal.returns-in-Refused
returns-in-Refused c =
    let old = c.args.b.now in
    let l = c.to_bytes-made.result.bytes in
    let e = sym c.in-Refused.is in
    let w = c.to_bytes-made.ensures in record { answer = ap (λ (a : Checked). number_in (checked_says a l)) e ∙ ap (λ (r : DownlinkBytes). number_in (checked_says r.answer r.bytes)) w; b = ap (λ (a : Checked). left_by as_it_is old (checked_says a l)) e ∙ ap (λ (r : DownlinkBytes). left_by as_it_is old (checked_says r.answer r.bytes)) w }

pub returns-in-Accepted : goal.returns-in-Accepted
returns-in-Accepted c =
    let old = c.args.b.now in
    let l = c.to_bytes-made.result.bytes in
    let e = sym c.in-Accepted.is in
    let w = c.to_bytes-made.ensures in record { answer = ap (λ (a : Checked). number_in (checked_says a l)) e ∙ ap (λ (r : DownlinkBytes). number_in (checked_says r.answer r.bytes)) w; b = ap (λ (a : Checked). left_by as_it_is old (checked_says a l)) e ∙ ap (λ (r : DownlinkBytes). left_by as_it_is old (checked_says r.answer r.bytes)) w }
