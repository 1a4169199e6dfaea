-- `numbers::back::to_u32` meets its contract. Assumes nothing.
use borrow.Author.Tests.{lt-ltb, le-ltb}
use Rattle.numbers.specs.Numbers.{at_most}
use Rattle.numbers.proofs.back.to_u32.Goals as goal

pub returns-then-n-gt4294967295 : goal.returns-then-n-gt4294967295
unfolding at_most
returns-then-n-gt4294967295 c =
    simp (lt-ltb _ _ c.if-n-gt4294967295.true)

pub returns : goal.returns
unfolding at_most
returns c =
    simp (le-ltb _ _ c.if-n-gt4294967295.false)
