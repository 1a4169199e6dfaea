-- `links::emit::emit` meets its contract. Assumes nothing.
use lib.ListN.{length}
use Prim.Native.Nat.{◌≤◌, ◌<◌}
use mathlib.Core.List.{◌++◌}
use Rattle.base.proofs.Answers.{room, no_room}
use Rattle.base.specs.declared.Written.TheVariants.{Bytes}
use Rattle.wire.proofs.Laws.Lay.{put_length}
use Rattle.links.proofs.Steps.{four_length, four_puts}
use native.Mathlib.Omega.{arith}
use mathlib.Core.Path.{sym, ap, ◌∙◌}
use Rattle.links.proofs.emit.emit.Goals as goal

pub returns-then-out-n : goal.returns-then-out-n
returns-then-out-n c = let a = c.args in
    let l = four_length a.out.now a.a.now a.b.now a.c.now a.d.now in
    let h : length a.out.now < length (a.a.now ++ a.b.now ++ a.c.now ++ a.d.now) = omega arith in
    record { answer = sym (no_room _ _ h).0; bytes = sym (no_room _ _ h).1 }

pub shape_of-out : goal.shape_of-out
shape_of-out c = ap length c.put_all-4.ensures ∙ put_length _ _ _
    ∙ ap length c.put_all-3.ensures ∙ put_length _ _ _
    ∙ ap length c.put_all-2.ensures ∙ put_length _ _ _
    ∙ ap length c.put_all.ensures ∙ put_length _ _ _

pub returns : goal.returns
returns c = let a = c.args in
    let l = four_length a.out.now a.a.now a.b.now a.c.now a.d.now in
    let h : length (a.a.now ++ a.b.now ++ a.c.now ++ a.d.now) ≤ length a.out.now = omega arith in record { answer = ap Bytes (sym l) ∙ sym (room _ _ h).0; bytes = four_puts _ _ _ _ _ h _ _ _ _ c.put_all.ensures c.put_all-2.ensures c.put_all-3.ensures c.put_all-4.ensures }
