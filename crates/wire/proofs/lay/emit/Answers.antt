-- `wire::lay::emit` meets its contract. Assumes nothing.
use lib.ListN.{length}
use Prim.Native.Nat.{◌≤◌, ◌<◌}
use Rattle.base.proofs.Answers.{room, no_room}
use Rattle.wire.proofs.Laws.Lay.{put_front, put_length}
use native.Mathlib.Omega.{arith}
use mathlib.Core.Path.{sym, ap, ◌∙◌}
use Rattle.wire.proofs.lay.emit.Goals as goal

pub returns-then-out-src : goal.returns-then-out-src
returns-then-out-src c = let h : length c.args.out.now < length c.args.src.now = omega arith in
    record { answer = sym (no_room _ _ h).0; bytes = sym (no_room _ _ h).1 }

pub shape_of-out : goal.shape_of-out
shape_of-out c = ap length c.put_all.ensures ∙ put_length _ _ _

pub returns : goal.returns
returns c = let h : length c.args.src.now ≤ length c.args.out.now = omega arith in
    record { answer = sym (room _ _ h).0; bytes = c.put_all.ensures ∙ put_front _ _ h }
