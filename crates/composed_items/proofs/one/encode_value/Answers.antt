-- `composed_items::one::encode_value` meets its contract. Assumes nothing.
use mathlib.Core.Path.{sym, ◌∙◌}
use Rattle.composed_items.proofs.Alone.{same_as, in_strange, in_outside, in_written}
use Rattle.composed_items.proofs.one.encode_value.Goals as goal

pub returns-then-strange_kind : goal.returns-then-strange_kind
returns-then-strange_kind c = (let both = in_strange _ _ _ _ _ _ (sym c.strange_kind.ensures ∙ c.if-strange_kind.true) in record { answer = both.0; bytes = both.1 })

pub returns-then-refused-ne0 : goal.returns-then-refused-ne0
returns-then-refused-ne0 c = (let both = in_outside _ _ _ _ _ (sym c.strange_kind.ensures ∙ c.if-strange_kind.false) _ c.refusal-refused.ensures _ c.if-refused-ne0.true in record { answer = both.0; bytes = both.1 })

pub returns : goal.returns
returns c = (let both = same_as _ _ _ _ _ (in_written _ _ _ _ _ (sym c.strange_kind.ensures ∙ c.if-strange_kind.false) _ c.refusal-refused.ensures c.if-refused-ne0.false _ c.bytes.ensures) (c.write_item.ensures.answer, c.write_item.ensures.bytes) in record { answer = both.0; bytes = both.1 })
