-- `kept_items::put_kept` meets its contract. Assumes nothing.
use Rattle.std.proofs.Common.{rules, arith, sym, refl}
use Rattle.wire.proofs.Laws.Lay.{put_none}
use Rattle.items.proofs.Laws.{came}
use Rattle.kept_items.proofs.Laws.{told}
use Rattle.kept_items.proofs.Loop.{none_yet, room, one_kept, none_kept, at_end}
use Rattle.items.specs.declared.item.ItemRead.TheVariants.{Kept}
use Rattle.kept_items.specs.Kept.{open_bytes}
use Rattle.kept_items.proofs.put_kept.Goals as goal

pub returns-then-out-at : goal.returns-then-out-at
returns-then-out-at c = let a = c.args in let t = told a.is_event a.payload.now _ c.count_items-told.ensures in sym (put_none a.out.now a.at (open_bytes a.is_event a.payload.now) (omega arith))

pub returns-then-out-at-2 : goal.returns-then-out-at-2
returns-then-out-at-2 c = let a = c.args in let t = told a.is_event a.payload.now _ c.count_items-told.ensures in sym (put_none a.out.now a.at (open_bytes a.is_event a.payload.now) (omega arith))

pub loop-read-init : goal.loop-read-init
loop-read-init c =
    let a = c.args in
    let t = told a.is_event a.payload.now _ c.count_items-told.ensures in
    let e = c.into_iter-read-iterator.ensures.into_iter_gives in
    rw e (tt, tt, refl, refl, none_yet a.is_event a.payload.now a.out.now a.at (omega arith))

pub lay_item-requires : goal.lay_item-requires
lay_item-requires c =
    let i = c.loop-read.invariant in
    let m = came (Kept _ _) i.2 i.3 c.in-Some.ensures.steps c.in-Kept.is in
    let r = room _ _ _ _ _ _ _ i.4 _ _ m.2 in
    rw c.bytes.ensures (omega arith)

pub overflow_add-o : goal.overflow_add-o
overflow_add-o c = let i = c.loop-read.invariant in let m = came (Kept _ _) i.2 i.3 c.in-Some.ensures.steps c.in-Kept.is in let r = room _ _ _ _ _ _ _ i.4 _ _ m.2 in search rules

pub overflow_add-o-in-Kept : goal.overflow_add-o-in-Kept
overflow_add-o-in-Kept c = let i = c.loop-read.invariant in let m = came (Kept _ _) i.2 i.3 c.in-Some.ensures.steps c.in-Kept.is in let r = room _ _ _ _ _ _ _ i.4 _ _ m.2 in search rules

pub loop-read-preserved-in-Kept : goal.loop-read-preserved-in-Kept
loop-read-preserved-in-Kept c =
    let i = c.loop-read.invariant in
    let m = came (Kept _ _) i.2 i.3 c.in-Some.ensures.steps c.in-Kept.is in
    (tt, tt, m.0, m.1, rw m.3 (one_kept _ _ _ _ _ _ _ i.4 _ _ m.2 _ _ _ c.is_beat-beat.ensures c.bytes.ensures c.lay_item.ensures))

pub loop-read-preserved : goal.loop-read-preserved
loop-read-preserved c =
    let i = c.loop-read.invariant in
    let m = came c.in-Some.read i.2 i.3 c.in-Some.ensures.steps refl in
    (tt, tt, m.0, m.1, rw m.3 (none_kept _ _ _ _ _ _ _ i.4 _ m.2 (rw i.3 at c.in-Some.ensures.steps.2.0) c.in_default.not-Kept))

pub returns : goal.returns
returns c = let i = c.loop-read.invariant in at_end _ _ _ _ _ _ _ i.4 (rw i.3 at c.in-None.ensures.steps.2.0)
