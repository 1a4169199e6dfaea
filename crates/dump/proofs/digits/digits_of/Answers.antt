-- `dump::digits::digits_of` meets its contract. Assumes nothing.
use borrow.Author.Rules.{rules}
use Rattle.dump.proofs.Laws.Decimal.{spelling_none, spelling_more, spelling_done}
use Rattle.dump.proofs.digits.digits_of.Goals as goal

pub loop-rest-init : goal.loop-rest-init
loop-rest-init c = spelling_none _ (search rules)

pub loop-rest-preserved : goal.loop-rest-preserved
loop-rest-preserved c = spelling_more _ _ _ _ c.loop-rest-test.true c.loop-rest.invariant

pub returns : goal.returns
returns c = spelling_done _ _ _ _ c.loop-rest-test.false c.loop-rest.invariant
