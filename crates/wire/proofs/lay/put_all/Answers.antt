-- `wire::lay::put_all` meets its contract. Assumes nothing.
use Rattle.std.proofs.Common.{length, ◌+◌, ◌≤◌, refl, arith}
use Rattle.wire.proofs.Laws.Lay.{laying_more}
use Rattle.wire.proofs.lay.put_all.Goals as goal

pub loop-i-preserved : goal.loop-i-preserved
loop-i-preserved c = let h : c.args.at + length c.args.src.now ≤ length c.args.out.now = omega arith in
    laying_more _ _ _ h _ _ _ c.loop-i-test.true refl c.loop-i.invariant
