-- `links::downlink::DownlinkPayload::write` meets its contract. Assumes nothing.
use Rattle.base.specs.Answers.{bytes}
use Rattle.base.proofs.Answers.{accepted_is, refused_is}
use Rattle.links.specs.Write.{downlink_head, downlink_wire}
use Rattle.links.proofs.Steps.{run_outside, run_no_head, run_behind, body_refused, body_written}
use mathlib.Core.Path.{sym, ap, ◌∙◌}
use Rattle.links.proofs.downlink.DownlinkPayload.write.Goals as goal

pub returns-then-bad-ne0 : goal.returns-then-bad-ne0
unfolding downlink_wire
returns-then-bad-ne0 c = let a = c.args in
    (let both = body_refused _ _ _ (run_outside a.src.now a.self.phy_payload (downlink_head a.self) _ c.refusal-bad.ensures c.if-bad-ne0.true) in record { answer = both.0; bytes = both.1 })

pub returns-in-Refused : goal.returns-in-Refused
unfolding downlink_wire
returns-in-Refused c = let a = c.args in
    let h = downlink_head a.self in
    let no = refused_is h _ (sym c.head-h.ensures.answer_value ∙ c.in-Refused.is) in
    (let both = body_refused _ _ _ (run_no_head a.src.now a.self.phy_payload h _ _ c.refusal-bad.ensures c.if-bad-ne0.false no) in record { answer = both.0; bytes = both.1 })

pub returns-in-Accepted : goal.returns-in-Accepted
unfolding downlink_wire
returns-in-Accepted c = let a = c.args in
    let h = downlink_head a.self in
    let yes = accepted_is h 10 (sym c.head-h.ensures.answer_value ∙ c.in-Accepted.is) ∙ ap bytes (sym c.head-h.ensures.bytes_value) in
    (let both = body_written _ _ _ _ _ (run_behind a.src.now a.self.phy_payload h _ _ _ c.refusal-bad.ensures c.if-bad-ne0.false yes c.bytes.ensures) (c.write_body.ensures.answer, c.write_body.ensures.bytes) in record { answer = both.0; bytes = both.1 })
