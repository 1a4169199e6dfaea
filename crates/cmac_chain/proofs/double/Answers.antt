-- `cmac_chain::double` meets its contract. Assumes nothing.
use Rattle.cmac_chain.specs.Cmac.{shifted, doubled}
use Rattle.cmac_chain.proofs.Laws.{added_rb}
use borrow.Author.Tests.{lt-ltb, le-ltb}
use Rattle.cmac_chain.proofs.double.Goals as goal

pub returns-then-l-ge128 : goal.returns-then-l-ge128
unfolding doubled
returns-then-l-ge128 c = simp (le-ltb _ _ c.if-l-ge128.true, c.shift-s.ensures) (added_rb (shifted _))

pub returns-else-l-ge128 : goal.returns-else-l-ge128
unfolding doubled
returns-else-l-ge128 c = simp (lt-ltb _ _ c.if-l-ge128.false, c.shift-s.ensures)
