-- `items::item::next_item` meets its contract. Assumes nothing.
use Rattle.base.proofs.Picks.{picks}
use Rattle.items.specs.Items.{item_at}
use borrow.Author.Tests.{lt-leb, lt-ltb, le-ltb}
use mathlib.Core.Path.{sym, ◌∙◌}
use Rattle.items.proofs.item.next_item.Goals as goal

pub returns-then-n-at : goal.returns-then-n-at
unfolding item_at
returns-then-n-at c = search picks

pub returns-then-n-at-lt2 : goal.returns-then-n-at-lt2
unfolding item_at
returns-then-n-at-lt2 c = simp (lt-leb _ _ c.if-n-at.false, lt-ltb _ _ c.if-n-at-lt2.true) c.cut_at.ensures

pub returns-then-n-at-2 : goal.returns-then-n-at-2
unfolding item_at
returns-then-n-at-2 c = simp (lt-leb _ _ c.if-n-at.false, le-ltb _ _ c.if-n-at-lt2.false, lt-ltb _ _ (rw c.wide-len.ensures at c.if-n-at-2.true)) c.cut_at-then-n-at-2.ensures

pub returns-then-bad_beat : goal.returns-then-bad_beat
unfolding item_at
returns-then-bad_beat c =
    rw (c.wide-len.ensures, c.kind_of.ensures)
    (simp (lt-leb _ _ c.if-n-at.false, le-ltb _ _ c.if-n-at-lt2.false, le-ltb _ _ (rw c.wide-len.ensures at c.if-n-at-2.false), rw c.wide-len.ensures at (sym c.bad_beat.ensures ∙ c.if-bad_beat.true)))

pub returns : goal.returns
unfolding item_at
returns c =
    rw (c.wide-len.ensures, c.kind_of.ensures)
    (simp (lt-leb _ _ c.if-n-at.false, le-ltb _ _ c.if-n-at-lt2.false, le-ltb _ _ (rw c.wide-len.ensures at c.if-n-at-2.false), rw c.wide-len.ensures at (sym c.bad_beat.ensures ∙ c.if-bad_beat.false)))
