-- `numbers::back::content_of` meets its contract. Assumes nothing.
use mathlib.Core.Path.{ap}
use borrow.Author.Tests.{eq-eqb, ne_eqb}
use Rattle.wire.specs.declared.run.Run.{Run}
use Rattle.contents.specs.declared.content.Held.TheVariants.{Frame, Work}
use Rattle.contents.specs.declared.content.Content.TheVariants.{Sealed, Open, Items}
use Rattle.numbers.specs.Numbers.{content_from}
use Rattle.numbers.proofs.back.content_of.Goals as goal

pub returns-then-content : goal.returns-then-content
unfolding content_from
returns-then-content c =
    simp (eq-eqb _ _ c.if-content.true)

pub returns-then-content-2 : goal.returns-then-content-2
unfolding content_from
returns-then-content-2 c =
    simp (ne_eqb _ _ c.if-content.false, eq-eqb _ _ c.if-content-2.true) (ap Sealed c.run_of-run.ensures)

pub returns-then-content-3 : goal.returns-then-content-3
unfolding content_from
returns-then-content-3 c =
    simp (ne_eqb _ _ c.if-content.false, ne_eqb _ _ c.if-content-2.false, eq-eqb _ _ c.if-content-3.true) (ap (Open Frame) c.run_of-run.ensures)

pub returns-then-content-4 : goal.returns-then-content-4
unfolding content_from
returns-then-content-4 c =
    simp (ne_eqb _ _ c.if-content.false, ne_eqb _ _ c.if-content-2.false, ne_eqb _ _ c.if-content-3.false, eq-eqb _ _ c.if-content-4.true) (ap (Open Work) c.run_of-run.ensures)

pub returns : goal.returns
unfolding content_from
returns c =
    simp (ne_eqb _ _ c.if-content.false, ne_eqb _ _ c.if-content-2.false, ne_eqb _ _ c.if-content-3.false, ne_eqb _ _ c.if-content-4.false) (ap (λ (r : Run). Items r.len) c.run_of-run.ensures)
