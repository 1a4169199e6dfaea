-- `composed_items::Lists::put` meets its contract. Assumes nothing.
use native.Mathlib.Omega.{arith}
use Rattle.composed_items.proofs.Loops.{item_none, item_over, item_begin, item_room, item_more, item_all}
use Rattle.composed_items.proofs.Lists.put.Goals as goal

pub returns-then-out-at : goal.returns-then-out-at
returns-then-out-at c = let a = c.args in item_none a.is_event a.count a.self.now a.out.now a.at (omega arith)

pub returns-in_default : goal.returns-in_default
returns-in_default c = let a = c.args in item_over a.is_event a.count a.self.now a.out.now a.at _ (omega arith) c.sum_up-told.ensures c.in_default.is

pub loop-i-init : goal.loop-i-init
loop-i-init c = let a = c.args in item_begin a.is_event a.count a.self.now a.out.now a.at _ _ (omega arith) c.sum_up-told.ensures c.in-Sum.is

pub overflow_add-o : goal.overflow_add-o
overflow_add-o c = let a = c.args in let h = item_room a.is_event a.count a.self.now _ c.item_count-i-end.ensures _ _ c.loop-i-test.true c.item_at-it.ensures _ c.item_size-o.ensures a.out.now _ a.at _ c.loop-i.invariant in omega arith

pub loop-i-preserved : goal.loop-i-preserved
loop-i-preserved c = let a = c.args in item_more a.is_event a.count a.self.now _ c.item_count-i-end.ensures _ _ c.loop-i-test.true c.item_at-it.ensures _ c.item_size-o.ensures a.out.now _ _ a.at _ c.lay_item.ensures c.loop-i.invariant

pub returns : goal.returns
returns c = item_all _ _ _ _ c.item_count-i-end.ensures _ _ _ _ _ c.loop-i-test.false c.loop-i.invariant
