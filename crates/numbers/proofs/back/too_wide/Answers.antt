-- `numbers::back::too_wide` meets its contract. Assumes nothing.
use mathlib.Core.Path.{sym}
use Rattle.numbers.proofs.Laws.{wide_last}
use borrow.Author.Tests.{lt-ltb, le-ltb}
use Rattle.numbers.specs.Numbers.{too_wide}
use Rattle.numbers.proofs.back.too_wide.Goals as goal

pub returns-then-numbers : goal.returns-then-numbers
unfolding too_wide
returns-then-numbers c =
    simp (lt-ltb _ _ c.if-numbers.true)

pub returns-then-numbers-2 : goal.returns-then-numbers-2
unfolding too_wide
returns-then-numbers-2 c =
    simp (le-ltb _ _ c.if-numbers.false, lt-ltb _ _ c.if-numbers-2.true)

pub returns-then-numbers-gt65535 : goal.returns-then-numbers-gt65535
unfolding too_wide
returns-then-numbers-gt65535 c =
    simp (le-ltb _ _ c.if-numbers.false, le-ltb _ _ c.if-numbers-2.false, lt-ltb _ _ c.if-numbers-gt65535.true)

pub returns-then-numbers-3 : goal.returns-then-numbers-3
unfolding too_wide
returns-then-numbers-3 c =
    simp (le-ltb _ _ c.if-numbers.false, le-ltb _ _ c.if-numbers-2.false, le-ltb _ _ c.if-numbers-gt65535.false, lt-ltb _ _ c.if-numbers-3.true)

pub returns : goal.returns
returns c =
    sym (wide_last c.args.numbers.now c.if-numbers.false c.if-numbers-2.false c.if-numbers-gt65535.false c.if-numbers-3.false)
