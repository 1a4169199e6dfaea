-- `numbers::back::to_u16` meets its contract. Assumes nothing.
use borrow.Author.Tests.{lt-ltb, le-ltb}
use Rattle.numbers.specs.Numbers.{at_most}
use Rattle.numbers.proofs.back.to_u16.Goals as goal

pub returns-then-n-gt65535 : goal.returns-then-n-gt65535
unfolding at_most
returns-then-n-gt65535 c =
    simp (lt-ltb _ _ c.if-n-gt65535.true)

pub returns : goal.returns
unfolding at_most
returns c =
    simp (le-ltb _ _ c.if-n-gt65535.false)
