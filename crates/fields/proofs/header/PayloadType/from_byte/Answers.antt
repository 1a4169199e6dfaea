-- `fields::header::PayloadType::from_byte` meets its contract. Assumes nothing.
use Rattle.fields.specs.Header.{type_read}
use native.Mathlib.Omega.{arith}
use borrow.Author.Tests.{ne_eqb}
use Rattle.fields.proofs.header.PayloadType.from_byte.Goals as goal

pub returns-in-0 : goal.returns-in-0
unfolding type_read
returns-in-0 c = rw c.in-0.is

pub returns-in-1 : goal.returns-in-1
unfolding type_read
returns-in-1 c = rw c.in-1.is

pub returns-in-2 : goal.returns-in-2
unfolding type_read
returns-in-2 c = rw c.in-2.is

pub returns-in-3 : goal.returns-in-3
unfolding type_read
returns-in-3 c = rw c.in-3.is

pub returns-in_default : goal.returns-in_default
unfolding type_read
returns-in_default c = let b = c.args.b in
    simp (ne_eqb b 0 (λ e. omega arith), ne_eqb b 1 (λ e. omega arith), ne_eqb b 2 (λ e. omega arith), ne_eqb b 3 (λ e. omega arith))
