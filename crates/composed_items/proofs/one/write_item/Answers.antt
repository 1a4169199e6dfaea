-- `composed_items::one::write_item` meets its contract. Assumes nothing.
use Rattle.composed_items.proofs.Alone.{one_refused, one_short, one_laid}
use Rattle.composed_items.proofs.one.write_item.Goals as goal

pub returns-then-refused-ne0 : goal.returns-then-refused-ne0
returns-then-refused-ne0 c = (let both = one_refused _ _ _ _ _ _ c.one_refusal-refused.ensures c.if-refused-ne0.true in record { answer = both.0; bytes = both.1 })

pub returns-then-out-n : goal.returns-then-out-n
returns-then-out-n c = (let both = one_short _ _ _ _ _ _ c.one_refusal-refused.ensures c.if-refused-ne0.false c.if-out-n.true in record { answer = both.0; bytes = both.1 })

pub returns : goal.returns
returns c = (let both = one_laid _ _ _ _ _ _ c.one_refusal-refused.ensures c.if-refused-ne0.false c.if-out-n.false _ _ _ c.tag_of-t.ensures c.is_beat.ensures c.put_item.ensures in record { answer = both.0; bytes = both.1 })
