-- `heartbeats::path::Paths::bad_run` meets its contract. Assumes nothing.
use Rattle.base.proofs.Lists.{Passed}
use Rattle.fields.specs.Path.{bad_entry}
use Rattle.heartbeats.specs.Paths.{path_run}
use Rattle.heartbeats.proofs.path.Paths.bad_run.Given as goal

abbrev pub invariant-loop-i : goal.invariant-loop-i
invariant-loop-i l = Passed bad_entry (path_run l.self l.run.start l.run.len) l.i
