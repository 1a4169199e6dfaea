-- `numbers::back::strange_content` meets its contract. Assumes nothing.
use borrow.Author.Tests.{lt-ltb, le-ltb}
use Rattle.numbers.specs.Numbers.{strange_content}
use Rattle.numbers.proofs.back.strange_content.Goals as goal

pub returns-then-numbers : goal.returns-then-numbers
unfolding strange_content
returns-then-numbers c =
    simp (lt-ltb _ _ c.if-numbers.true)

pub returns : goal.returns
unfolding strange_content
returns c =
    simp (le-ltb _ _ c.if-numbers.false)
