-- `heartbeats::path::Paths::put` meets its contract. Assumes nothing.
use native.Mathlib.Omega.{arith}
use Rattle.heartbeats.proofs.Loops.{entry_in, six_more, path_none, path_begin, path_done}
use Rattle.heartbeats.proofs.path.Paths.put.Goals as goal

pub returns-then-out-at : goal.returns-then-out-at
returns-then-out-at c = path_none _ _ _ _ _ c.count.ensures c.held-n.ensures _ _ (omega arith)

pub returns-then-out-at-2 : goal.returns-then-out-at-2
returns-then-out-at-2 c = path_none _ _ _ _ _ c.count.ensures c.held-n.ensures _ _ (omega arith)

pub loop-i-init : goal.loop-i-init
loop-i-init c = path_begin _ _ _ _ _ c.count.ensures c.held-n.ensures _ _ (omega arith)

pub overflow_add-run : goal.overflow_add-run
overflow_add-run c = let a = c.args in let h = entry_in a.self.now a.run.start a.run.len _ _ c.count.ensures c.held-n.ensures _ c.loop-i-test.true in omega arith

pub loop-i-preserved : goal.loop-i-preserved
loop-i-preserved c = six_more _ _ _ _ _ c.count.ensures c.held-n.ensures _ _ c.loop-i-test.true c.entry-made.ensures _ _ _ c.loop-i.invariant _ c.put_all.ensures

pub returns : goal.returns
returns c = path_done _ _ _ _ _ c.count.ensures c.held-n.ensures _ _ _ _ _ c.loop-i-test.false c.loop-i.invariant
