-- `items::item::kind_of` meets its contract. Assumes nothing.
use mathlib.Core.Path.{sym, ◌∙◌}
use Rattle.items.specs.Items.{kind_of}
use Rattle.items.proofs.item.kind_of.Goals as goal

pub returns-then-is_beat : goal.returns-then-is_beat
unfolding kind_of
returns-then-is_beat c = simp (sym c.is_beat.ensures ∙ c.if-is_beat.true)

pub returns : goal.returns
unfolding kind_of
returns c = simp (sym c.is_beat.ensures ∙ c.if-is_beat.false)
