-- `cipher::encipher` meets its contract. Assumes nothing.
use Rattle.cipher.proofs.Columns.{rounds_none, rounds_more, ended}
use native.Mathlib.Omega.{arith}
use Rattle.cipher.proofs.encipher.Goals as goal

pub loop-i-init : goal.loop-i-init
loop-i-init c = (omega arith, rounds_none _ _ c.first_key-first.ensures c.next_cols-k.ensures)

pub loop-i-preserved : goal.loop-i-preserved
loop-i-preserved c = (omega arith, rounds_more _ _ c.step-s.ensures c.next_cols-k-in-loop-i.ensures c.times2-v.ensures c.loop-i.invariant.1)

pub returns : goal.returns
returns c = ended _ _ (omega arith) c.load.ensures c.first_key-first.ensures c.add_key-s.ensures c.loop-i.invariant.1 c.last_step.ensures c.unload.ensures
