-- `events::stamped::Stamped::write_in` meets its contract. Assumes nothing.
use lib.ListN.{length}
use mathlib.Core.Path.{ap, ◌∙◌}
use Rattle.wire.proofs.Laws.Lay.{put_length}
use Rattle.events.proofs.Steps.{in_refused, in_no_mic, in_long, in_short, in_done}
use Rattle.events.proofs.stamped.Stamped.write_in.Goals as goal

pub returns-then-bad-ne0 : goal.returns-then-bad-ne0
returns-then-bad-ne0 c = (let both = in_refused _ _ _ _ _ c.refusal-bad.ensures _ _ _ c.if-bad-ne0.true in record { answer = both.0; bytes = both.1 })

pub returns-then-not-has_mic : goal.returns-then-not-has_mic
returns-then-not-has_mic c = (let both = in_no_mic _ _ _ _ _ c.refusal-bad.ensures c.if-bad-ne0.false _ _ _ (c.if-not-has_mic.true) in record { answer = both.0; bytes = both.1 })

pub returns-then-n-gt-PAYLOAD : goal.returns-then-n-gt-PAYLOAD
returns-then-n-gt-PAYLOAD c = (let both = in_long _ _ _ _ _ c.refusal-bad.ensures c.if-bad-ne0.false _ c.size-n.ensures _ _ _ (c.if-not-has_mic.false) c.if-n-gt-PAYLOAD.true in record { answer = both.0; bytes = both.1 })

pub returns-then-out-n : goal.returns-then-out-n
returns-then-out-n c = (let both = in_short _ _ _ _ _ c.refusal-bad.ensures c.if-bad-ne0.false _ c.size-n.ensures c.if-n-gt-PAYLOAD.false _ _ _ (c.if-not-has_mic.false) c.if-out-n.true in record { answer = both.0; bytes = both.1 })

pub shape_of-out : goal.shape_of-out
shape_of-out c = ap length c.put_all-3.ensures ∙ put_length _ _ _ ∙ ap length c.put.ensures ∙ put_length _ _ _ ∙ ap length c.put_all-2.ensures ∙ put_length _ _ _ ∙ ap length c.put_all.ensures ∙ put_length _ _ _

pub returns : goal.returns
returns c = (let both = in_done _ _ _ _ _ c.refusal-bad.ensures c.if-bad-ne0.false _ c.size-n.ensures c.if-n-gt-PAYLOAD.false _ _ _ (c.if-not-has_mic.false) _ _ _ _ _ _ c.if-out-n.false c.head-h.ensures c.be32_bytes-last.ensures c.put_all.ensures c.put_all-2.ensures c.put.ensures c.put_all-3.ensures in record { answer = both.0; bytes = both.1 })
