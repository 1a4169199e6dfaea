-- `composed_items::Lists::first` meets its contract. Assumes nothing.
use Rattle.composed_items.proofs.Loops.{each_more, each_stop, each_all}
use Rattle.composed_items.proofs.Lists.first.Goals as goal

pub returns-then-r-ne0 : goal.returns-then-r-ne0
returns-then-r-ne0 g c f h = each_stop _ c.args.self.now _ c.item_count-i-end.ensures _ _ c.loop-i-test.true c.item_at.ensures f _ (h _ _ c.fault-r.ensures) c.if-r-ne0.true (c.loop-i.invariant f h)

pub loop-i-preserved : goal.loop-i-preserved
loop-i-preserved g c f h = each_more _ c.args.self.now _ c.item_count-i-end.ensures _ _ c.loop-i-test.true c.item_at.ensures f _ (h _ _ c.fault-r.ensures) c.if-r-ne0.false (c.loop-i.invariant f h)

pub returns : goal.returns
returns g c f h = each_all _ c.args.self.now _ c.item_count-i-end.ensures f _ c.loop-i-test.false (c.loop-i.invariant f h)
