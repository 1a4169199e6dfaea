-- `mesh_dump::print` meets its contract. Assumes nothing.
use Rattle.mesh_dump.proofs.Whole.{written_none, written_more, written_all}
use Rattle.mesh_dump.proofs.print.Goals as goal

pub loop-next-init : goal.loop-next-init
loop-next-init g c = written_none _ _

pub loop-next-preserved : goal.loop-next-preserved
loop-next-preserved g c = written_more _ _ _ _ _ _ _ _ _ c.loop-next.invariant c.fill-filled.ensures c.part.ensures c.in_ok-write_all.ensures.bytes

pub returns : goal.returns
returns g c = written_all _ _ _ _ c.loop-next-test.false c.loop-next.invariant
