-- `numbers::write::write_in` meets its contract. Assumes nothing.
use mathlib.Core.Path.{sym, ap, ◌∙◌}
use Rattle.base.specs.Answers.{bytes}
use Rattle.base.proofs.Answers.{accepted_is, refused_is}
use Rattle.links.specs.Write.{uplink_head, uplink_wire}
use Rattle.links.proofs.Steps.{run_outside, run_no_head, run_behind, frame_refused, frame_written}
use Rattle.numbers.proofs.write.write_in.Goals as goal

pub returns-then-bad-ne0 : goal.returns-then-bad-ne0
unfolding uplink_wire
returns-then-bad-ne0 c =
    let a = c.args in
    (let both = frame_refused a.has_mic a.mic a.first _ _ _ (run_outside a.src.now a.u.phy_payload (uplink_head a.u) _ c.refusal-bad.ensures c.if-bad-ne0.true) in record { answer = both.0; bytes = both.1 })

pub returns-in-Refused : goal.returns-in-Refused
unfolding uplink_wire
returns-in-Refused c =
    let a = c.args in
    let h = uplink_head a.u in
    let no = refused_is h _ (sym c.head-h.ensures.answer_value ∙ c.in-Refused.is) in
    (let both = frame_refused a.has_mic a.mic a.first _ _ _ (run_no_head a.src.now a.u.phy_payload h _ _ c.refusal-bad.ensures c.if-bad-ne0.false no) in record { answer = both.0; bytes = both.1 })

pub returns-in-Accepted : goal.returns-in-Accepted
unfolding uplink_wire
returns-in-Accepted c =
    let a = c.args in
    let h = uplink_head a.u in
    let yes = accepted_is h 9 (sym c.head-h.ensures.answer_value ∙ c.in-Accepted.is) ∙ ap bytes (sym c.head-h.ensures.bytes_value) in
    (let both = frame_written a.has_mic a.mic a.first _ _ _ _ _ (run_behind a.src.now a.u.phy_payload h _ _ _ c.refusal-bad.ensures c.if-bad-ne0.false yes c.bytes.ensures) (c.write_frame.ensures.answer, c.write_frame.ensures.bytes) in record { answer = both.0; bytes = both.1 })
