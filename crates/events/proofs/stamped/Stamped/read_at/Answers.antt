-- `events::stamped::Stamped::read_at` meets its contract. Assumes nothing.
use lib.ListN.{length}
use Rattle.events.specs.Read.{stamped_at}
use Rattle.events.proofs.Laws.{stamped_is}
use Rattle.base.proofs.Picks.{picks}
use native.Mathlib.Omega.{arith}
use borrow.Author.Tests.{lt-ltb, le-ltb}
use Rattle.events.proofs.stamped.Stamped.read_at.Goals as goal

pub returns-then-b-gt-BODY : goal.returns-then-b-gt-BODY
unfolding stamped_at
returns-then-b-gt-BODY c = search picks

pub returns-then-b-lt-LEAST : goal.returns-then-b-lt-LEAST
unfolding stamped_at
returns-then-b-lt-LEAST c = let n = length c.args.b.now in simp (le-ltb 8187 n (omega arith), lt-ltb n 8 (omega arith))

pub returns : goal.returns
returns c = stamped_is _ c.args.b.now (omega arith) (omega arith) _ _ _ c.be32_of.ensures c.be32_of-2.ensures c.of.ensures
