-- `sealing::content::tell_open` meets its contract. Assumes nothing.
use borrow.Author.Tests.{eq-eqb, ne_eqb}
use mathlib.Core.Path.{◌∙◌}
use Rattle.sealing.proofs.content.tell_open.Goals as goal

pub returns-then-outside-ne0 : goal.returns-then-outside-ne0
returns-then-outside-ne0 c = simp (ne_eqb _ _ c.if-outside-ne0.true)

pub returns-then-kept-eq0 : goal.returns-then-kept-eq0
returns-then-kept-eq0 c = c.none.ensures ∙ simp (eq-eqb _ _ c.if-outside-ne0.false, eq-eqb _ _ c.if-kept-eq0.true)

pub returns : goal.returns
returns c = simp (eq-eqb _ _ c.if-outside-ne0.false, ne_eqb _ _ c.if-kept-eq0.false)
