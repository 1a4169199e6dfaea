-- `items::item::bad_beat` meets its contract. Assumes nothing.
use mathlib.Core.Path.{sym, ◌∙◌}
use Rattle.items.specs.Items.{bad_beat}
use Rattle.items.proofs.item.bad_beat.Goals as goal

pub returns-then-is_beat : goal.returns-then-is_beat
unfolding bad_beat
returns-then-is_beat c = simp (sym c.is_beat.ensures ∙ c.if-is_beat.true)

pub returns : goal.returns
unfolding bad_beat
returns c = simp (sym c.is_beat.ensures ∙ c.if-is_beat.false)
