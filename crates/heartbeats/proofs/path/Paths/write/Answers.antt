-- `heartbeats::path::Paths::write` meets its contract. Assumes nothing.
use native.Mathlib.Omega.{arith}
use Rattle.heartbeats.proofs.Loops.{bad_told, long_told, short_told, all_told}
use Rattle.heartbeats.proofs.path.Paths.write.Goals as goal

pub returns-then-bad-ne0 : goal.returns-then-bad-ne0
returns-then-bad-ne0 c = (let both = bad_told _ _ _ _ c.count-n.ensures c.bad_run-bad.ensures c.if-bad-ne0.true in record { answer = both.0; bytes = both.1 })

pub returns-then-n-gt-PATH : goal.returns-then-n-gt-PATH
returns-then-n-gt-PATH c = (let both = long_told _ _ _ _ c.count-n.ensures c.bad_run-bad.ensures c.if-bad-ne0.false (omega arith) in record { answer = both.0; bytes = both.1 })

pub returns-then-out-n : goal.returns-then-out-n
returns-then-out-n c = (let both = short_told _ _ _ _ c.count-n.ensures c.bad_run-bad.ensures c.if-bad-ne0.false (omega arith) c.if-out-n.true in record { answer = both.0; bytes = both.1 })

pub returns : goal.returns
returns c = (let both = all_told _ _ _ _ c.count-n.ensures c.bad_run-bad.ensures c.if-bad-ne0.false (omega arith) c.if-out-n.false _ c.put.ensures in record { answer = both.0; bytes = both.1 })
