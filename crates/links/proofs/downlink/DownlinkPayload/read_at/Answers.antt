-- `links::downlink::DownlinkPayload::read_at` meets its contract. Assumes nothing.
use lib.ListN.{length}
use Rattle.links.specs.Read.{downlink_at}
use Rattle.links.proofs.Steps.{downlink_is}
use Rattle.base.proofs.Picks.{picks}
use native.Mathlib.Omega.{arith}
use borrow.Author.Tests.{lt-ltb, le-ltb}
use Rattle.links.proofs.downlink.DownlinkPayload.read_at.Goals as goal

pub returns-then-b-gt-BODY : goal.returns-then-b-gt-BODY
unfolding downlink_at
returns-then-b-gt-BODY c = search picks

pub returns-then-b-lt-LEAST : goal.returns-then-b-lt-LEAST
unfolding downlink_at
returns-then-b-lt-LEAST c = let n = length c.args.b.now in simp (le-ltb 8187 n (omega arith), lt-ltb n 10 (omega arith))

pub returns : goal.returns
returns c = downlink_is _ c.args.b.now (omega arith) (omega arith) _ _ c.from_bytes.ensures c.be32_of.ensures
