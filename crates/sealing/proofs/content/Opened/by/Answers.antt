-- `sealing::content::Opened::by` meets its contract. Assumes nothing.
use borrow.Author.Tests.{eq-eqb, ne_eqb}
use Rattle.sealing.proofs.content.Opened.by.Goals as goal

pub returns-then-opening-eq0 : goal.returns-then-opening-eq0
returns-then-opening-eq0 c = simp (eq-eqb _ _ c.if-opening-eq0.true)

pub returns : goal.returns
returns c = simp (ne_eqb _ _ c.if-opening-eq0.false)
