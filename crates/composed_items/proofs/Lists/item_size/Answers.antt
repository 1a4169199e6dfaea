-- `composed_items::Lists::item_size` meets its contract. Assumes nothing.
use native.Mathlib.Omega.{arith}
use mathlib.Core.Path.{sym, ◌∙◌}
use Rattle.composed_items.proofs.Runs.{held_short, path_size, value_size}
use Rattle.composed_items.proofs.Lists.item_size.Goals as goal

pub overflow_mul-result : goal.overflow_mul-result
overflow_mul-result c = let h = held_short _ _ _ _ _ c.run.ensures c.held.ensures in omega arith

pub overflow_add-result : goal.overflow_add-result
overflow_add-result c = let h = held_short _ _ _ _ _ c.run.ensures c.held.ensures in omega arith

pub returns-then-is_path : goal.returns-then-is_path
returns-then-is_path c = rw (← c.self.view_is) (path_size _ _ _ _ c.run.ensures (sym c.is_path.ensures ∙ c.if-is_path.true) _ _ c.count.ensures c.held.ensures)

pub overflow_add-result-2 : goal.overflow_add-result-2
overflow_add-result-2 c = let h = held_short _ _ _ _ _ c.run-2.ensures c.held-2.ensures in omega arith

pub returns : goal.returns
returns c = rw (← c.self.view_is) (value_size _ _ _ _ c.run-2.ensures (sym c.is_path.ensures ∙ c.if-is_path.false) _ c.held-2.ensures)
