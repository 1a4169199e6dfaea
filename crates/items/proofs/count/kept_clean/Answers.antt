-- `items::count::kept_clean` meets its contract. Assumes nothing.
use mathlib.Core.Path.{sym, ◌∙◌}
use Rattle.items.proofs.count.kept_clean.Goals as goal

pub returns-then-is_beat : goal.returns-then-is_beat
returns-then-is_beat c = c.all_even.ensures ∙ sym (simp (sym c.is_beat.ensures ∙ c.if-is_beat.true))

pub returns : goal.returns
returns c = sym (simp (sym c.is_beat.ensures ∙ c.if-is_beat.false))
