-- `mic::absorb::absorb_path` meets its contract. Assumes nothing.
use lib.ListN.{drop}
use Rattle.base.specs.Lists.{joined}
use Rattle.cipher.specs.inner.Words.{enciphered}
use Rattle.fields.specs.Path.{six_of}
use Rattle.heartbeats.specs.Paths.{path_run}
use Rattle.mic.proofs.Absorbing.{Left}
use Rattle.mic.proofs.absorb.absorb_path.Given as goal

abbrev pub invariant-loop-i : goal.invariant-loop-i
invariant-loop-i l =
    Left (enciphered l.e) l.initial.a (joined six_of (path_run l.entries l.run.start l.run.len)) l.a (joined six_of (drop l.i (path_run l.entries l.run.start l.run.len)))
