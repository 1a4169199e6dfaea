-- `items::count::count_items` meets its contract. Assumes nothing.
use Rattle.std.proofs.Common.{rules}
use Rattle.items.specs.declared.item.ItemRead.TheVariants.{Kept, Skipped, Cut}
use Rattle.items.proofs.Laws.{turn, came, no_other}
use Rattle.items.proofs.Loop.{one_kept, one_skipped, one_cut, at_end}
use Rattle.items.proofs.count.count_items.Goals as goal

pub overflow_add-all-in-Kept : goal.overflow_add-all-in-Kept
overflow_add-all-in-Kept c = let i = c.loop-read.invariant in let m = came (Kept _ _) i.2 i.3 c.in-Some.ensures.steps c.in-Kept.is in let t = turn _ _ _ _ m.2 in search rules

pub overflow_add-all-in-Kept-2 : goal.overflow_add-all-in-Kept-2
overflow_add-all-in-Kept-2 c = let i = c.loop-read.invariant in let m = came (Kept _ _) i.2 i.3 c.in-Some.ensures.steps c.in-Kept.is in let t = turn _ _ _ _ m.2 in search rules

pub loop-read-preserved-in-Kept : goal.loop-read-preserved-in-Kept
loop-read-preserved-in-Kept c =
    let i = c.loop-read.invariant in
    let m = came (Kept _ _) i.2 i.3 c.in-Some.ensures.steps c.in-Kept.is in
    (tt, tt, m.0, m.1, rw m.3 (one_kept _ _ _ _ i.4 _ _ m.2 _ c.bytes.ensures _ c.kept_clean.ensures))

pub overflow_add-all-in-Skipped-2 : goal.overflow_add-all-in-Skipped-2
overflow_add-all-in-Skipped-2 c = let i = c.loop-read.invariant in let m = came (Skipped _ _) i.2 i.3 c.in-Some.ensures.steps c.in-Skipped.is in let t = turn _ _ _ _ m.2 in search rules

pub overflow_add-all-in-Skipped-3 : goal.overflow_add-all-in-Skipped-3
overflow_add-all-in-Skipped-3 c = let i = c.loop-read.invariant in let m = came (Skipped _ _) i.2 i.3 c.in-Some.ensures.steps c.in-Skipped.is in let t = turn _ _ _ _ m.2 in search rules

pub loop-read-preserved-in-Skipped : goal.loop-read-preserved-in-Skipped
loop-read-preserved-in-Skipped c =
    let i = c.loop-read.invariant in
    let m = came (Skipped _ _) i.2 i.3 c.in-Some.ensures.steps c.in-Skipped.is in
    (tt, tt, m.0, m.1, rw m.3 (one_skipped _ _ _ _ i.4 _ _ m.2))

pub overflow_add-all-in-Cut : goal.overflow_add-all-in-Cut
overflow_add-all-in-Cut c = let i = c.loop-read.invariant in let m = came (Cut _ _) i.2 i.3 c.in-Some.ensures.steps c.in-Cut.is in let t = turn _ _ _ _ m.2 in search rules

pub loop-read-preserved-in-Cut : goal.loop-read-preserved-in-Cut
loop-read-preserved-in-Cut c =
    let i = c.loop-read.invariant in
    let m = came (Cut _ _) i.2 i.3 c.in-Some.ensures.steps c.in-Cut.is in
    (tt, tt, m.0, m.1, rw m.3 (one_cut _ _ _ _ i.4 _ _ m.2))

pub loop-read-preserved : goal.loop-read-preserved
loop-read-preserved c =
    let i = c.loop-read.invariant in
    let m = c.in-Some.ensures.steps in
    absurd (no_other _ _ _ _ m.2.1 m.2.0 c.in_default.not-Kept c.in_default.not-Skipped c.in_default.not-Cut)

pub returns : goal.returns
returns c = let i = c.loop-read.invariant in at_end _ _ _ _ i.4 (rw i.3 at c.in-None.ensures.steps.2.0)
