-- `heartbeats::path::Paths::bad_run` meets its contract. Assumes nothing.
use native.Mathlib.Omega.{arith}
use Rattle.heartbeats.proofs.Loops.{entry_in, path_more, path_stop, path_all}
use Rattle.heartbeats.proofs.path.Paths.bad_run.Goals as goal

pub overflow_add-run : goal.overflow_add-run
overflow_add-run c = let a = c.args in let h = entry_in a.self.now a.run.start a.run.len _ _ c.count.ensures c.held-i-end.ensures _ c.loop-i-test.true in omega arith

pub loop-i-preserved : goal.loop-i-preserved
loop-i-preserved c = path_more _ _ _ _ _ c.count.ensures c.held-i-end.ensures _ _ c.loop-i-test.true c.entry-made.ensures c.in-Accepted.is c.loop-i.invariant

pub returns-in-Refused : goal.returns-in-Refused
returns-in-Refused c = path_stop _ _ _ _ _ c.count.ensures c.held-i-end.ensures _ _ c.loop-i-test.true c.entry-made.ensures _ c.in-Refused.is c.loop-i.invariant

pub returns : goal.returns
returns c = path_all _ _ _ _ _ c.count.ensures c.held-i-end.ensures _ c.loop-i-test.false c.loop-i.invariant
