-- `events::stamped::Stamped::write` meets its contract. Assumes nothing.
use lib.ListN.{length}
use mathlib.Core.Path.{ap, ◌∙◌}
use Rattle.wire.proofs.Laws.Lay.{put_length}
use Rattle.events.proofs.Steps.{write_refused, write_long, write_short, write_done}
use Rattle.events.proofs.stamped.Stamped.write.Goals as goal

pub returns-then-bad-ne0 : goal.returns-then-bad-ne0
returns-then-bad-ne0 c = (let both = write_refused _ _ _ _ _ c.refusal-bad.ensures c.if-bad-ne0.true in record { answer = both.0; bytes = both.1 })

pub returns-then-n-gt-PAYLOAD : goal.returns-then-n-gt-PAYLOAD
returns-then-n-gt-PAYLOAD c = (let both = write_long _ _ _ _ _ c.refusal-bad.ensures c.if-bad-ne0.false _ c.size-n.ensures c.if-n-gt-PAYLOAD.true in record { answer = both.0; bytes = both.1 })

pub returns-then-out-n : goal.returns-then-out-n
returns-then-out-n c = (let both = write_short _ _ _ _ _ c.refusal-bad.ensures c.if-bad-ne0.false _ c.size-n.ensures c.if-n-gt-PAYLOAD.false c.if-out-n.true in record { answer = both.0; bytes = both.1 })

pub shape_of-out : goal.shape_of-out
shape_of-out c = ap length c.put.ensures ∙ put_length _ _ _ ∙ ap length c.put_all.ensures ∙ put_length _ _ _

pub returns : goal.returns
returns c = (let both = write_done _ _ _ _ _ c.refusal-bad.ensures c.if-bad-ne0.false _ c.size-n.ensures c.if-n-gt-PAYLOAD.false _ _ _ c.if-out-n.false c.head-h.ensures c.put_all.ensures c.put.ensures in record { answer = both.0; bytes = both.1 })
