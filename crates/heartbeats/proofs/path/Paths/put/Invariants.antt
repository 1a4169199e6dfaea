-- `heartbeats::path::Paths::put` meets its contract. Assumes nothing.
use Prim.Native.Nat.{◌*◌}
use lib.ListN.{drop}
use Rattle.base.specs.Lists.{joined}
use Rattle.wire.proofs.Laws.Lay.{Joining}
use Rattle.fields.specs.Path.{six_of}
use Rattle.heartbeats.specs.Paths.{path_run}
use Rattle.heartbeats.proofs.path.Paths.put.Given as goal

abbrev pub invariant-loop-i : goal.invariant-loop-i
invariant-loop-i l =
    Joining l.initial.out l.at (joined six_of (path_run l.self l.run.start l.run.len)) l.out (6 * l.i) (joined six_of (drop l.i (path_run l.self l.run.start l.run.len)))
