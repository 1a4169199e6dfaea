-- `composed_items::Lists::sum_up` meets its contract. Assumes nothing.
use Rattle.composed_items.proofs.Loops.{sum_none, sum_more, sum_over, sum_all}
use Rattle.composed_items.proofs.Lists.sum_up.Goals as goal

pub loop-i-init : goal.loop-i-init
loop-i-init c = sum_none _ _ _ _

pub returns-then-most-sum : goal.returns-then-most-sum
returns-then-most-sum c = sum_over _ _ _ _ c.item_count-i-end.ensures _ _ c.loop-i-test.true c.item_at.ensures _ c.item_size-more.ensures _ _ c.if-most-sum.true c.loop-i.invariant

pub loop-i-preserved : goal.loop-i-preserved
loop-i-preserved c = sum_more _ _ _ _ c.item_count-i-end.ensures _ _ c.loop-i-test.true c.item_at.ensures _ c.item_size-more.ensures _ _ c.if-most-sum.false c.loop-i.invariant

pub returns : goal.returns
returns c = sum_all _ _ _ _ c.item_count-i-end.ensures _ _ _ c.loop-i-test.false c.loop-i.invariant
