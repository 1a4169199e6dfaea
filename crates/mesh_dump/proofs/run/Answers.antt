-- `mesh_dump::run` meets its contract. Assumes nothing.
use Rattle.mesh_dump.proofs.Whole.{all_printed}
use Rattle.mesh_dump.proofs.run.Goals as goal

pub returns-in-Ok-print-clause-all : goal.returns-in-Ok-print-clause-all
returns-in-Ok-print-clause-all g c = all_printed _ _ _ _ _ _ _ c.read_input.auto.buf c.in-Ok.ensures.bound c.in-Ok.ensures.bytes c.in-Ok.ensures.end c.part.ensures c.in-Ok-print.ensures
