-- `composed_items::Lists::lay_item` meets its contract. Assumes nothing.
use mathlib.Core.Path.{sym, ap, ◌∙◌}
use Rattle.wire.specs.Lay.{put}
use Rattle.composed_items.proofs.Runs.{path_wire_lem, value_wire}
use Rattle.composed_items.proofs.Lists.lay_item.Goals as goal

pub returns-then-is_path : goal.returns-then-is_path
returns-then-is_path c = c.lay_path.ensures ∙ ap (put _ _) (sym (path_wire_lem _ _ _ (sym c.is_path.ensures ∙ c.if-is_path.true) _ c.run.ensures))

pub returns-else-is_path : goal.returns-else-is_path
returns-else-is_path c = rw (← c.self.view_is) (c.put_item.ensures ∙ ap (put _ _) (sym (value_wire _ _ _ _ c.run-else-is_path.ensures (sym c.is_path.ensures ∙ c.if-is_path.false) _ _ c.is_beat.ensures c.bytes.ensures)))
