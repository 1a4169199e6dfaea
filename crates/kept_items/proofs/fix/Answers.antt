-- `kept_items::fix` meets its contract. Assumes nothing.
use Rattle.kept_items.specs.Kept.{fixed}
use borrow.Author.Tests.{eq-eqb, ne_eqb}
use Rattle.kept_items.proofs.fix.Goals as goal

pub returns-then-i-eq5 : goal.returns-then-i-eq5
unfolding fixed
returns-then-i-eq5 c = simp (c.if-beat.true, eq-eqb _ _ c.if-i-eq5.true)

pub returns-then-beat : goal.returns-then-beat
unfolding fixed
returns-then-beat c = simp (c.if-beat.true, ne_eqb _ _ c.if-i-eq5.false)

pub returns : goal.returns
unfolding fixed
returns c = simp c.if-beat.false
