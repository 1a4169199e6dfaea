-- `composed_items::one::encode_sealed` meets its contract. Assumes nothing.
use Rattle.composed_items.proofs.Alone.{same_as, sealed_outside, sealed_long, sealed_emitted}
use Rattle.composed_items.proofs.one.encode_sealed.Goals as goal

pub returns-then-refused-ne0 : goal.returns-then-refused-ne0
returns-then-refused-ne0 c = (let both = sealed_outside _ _ _ c.refusal-refused.ensures _ c.if-refused-ne0.true in record { answer = both.0; bytes = both.1 })

pub returns-then-bytes-gt-PAYLOAD : goal.returns-then-bytes-gt-PAYLOAD
returns-then-bytes-gt-PAYLOAD c = (let both = sealed_long _ _ _ c.refusal-refused.ensures _ c.if-refused-ne0.false _ c.bytes-bytes.ensures c.if-bytes-gt-PAYLOAD.true in record { answer = both.0; bytes = both.1 })

pub returns : goal.returns
returns c = (let both = same_as _ _ _ _ _ (sealed_emitted _ _ _ c.refusal-refused.ensures c.if-refused-ne0.false _ c.bytes-bytes.ensures c.if-bytes-gt-PAYLOAD.false) (c.emit.ensures.answer, c.emit.ensures.bytes) in record { answer = both.0; bytes = both.1 })
