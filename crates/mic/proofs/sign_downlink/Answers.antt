-- `mic::sign_downlink` meets its contract. Assumes nothing.
use mathlib.Core.Path.{sym, ap, ◌∙◌}
use Rattle.base.specs.Answers.{bytes}
use Rattle.base.proofs.Answers.{accepted_is, refused_is}
use Rattle.fips197.specs.Aes.{aes}
use Rattle.links.specs.Write.{downlink_head, downlink_wire}
use Rattle.links.proofs.Steps.{run_outside, run_no_head, run_behind}
use Rattle.mic.proofs.Steps.{unsigned, signs}
use Rattle.mic.proofs.sign_downlink.Goals as goal

pub returns-then-bad-ne0 : goal.returns-then-bad-ne0
unfolding downlink_wire
returns-then-bad-ne0 c = let a = c.args in
    unsigned (aes a.key.0) a.first _ _ (run_outside a.frame.now a.p.phy_payload (downlink_head a.p) _ c.refusal-bad.ensures c.if-bad-ne0.true)

pub returns-in-Refused : goal.returns-in-Refused
unfolding downlink_wire
returns-in-Refused c = let a = c.args in
    let h = downlink_head a.p in
    let no = refused_is h _ (sym c.head-h.ensures.answer_value ∙ c.in-Refused.is) in
    unsigned (aes a.key.0) a.first _ _ (run_no_head a.frame.now a.p.phy_payload h _ _ c.refusal-bad.ensures c.if-bad-ne0.false no)

pub returns-in-Accepted : goal.returns-in-Accepted
unfolding downlink_wire
returns-in-Accepted c = let a = c.args in
    let h = downlink_head a.p in
    let yes = accepted_is h 10 (sym c.head-h.ensures.answer_value ∙ c.in-Accepted.is) ∙ ap bytes (sym c.head-h.ensures.bytes_value) in
    signs (aes a.key.0) a.first _ _ _ (run_behind a.frame.now a.p.phy_payload h _ _ _ c.refusal-bad.ensures c.if-bad-ne0.false yes c.bytes.ensures) c.sign_run.ensures
