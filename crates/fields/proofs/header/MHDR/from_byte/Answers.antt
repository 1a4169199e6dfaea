-- `fields::header::MHDR::from_byte` meets its contract. Assumes nothing.
use Prim.Native.Nat.{◌+◌, ◌%◌}
use Rattle.fields.specs.Header.{header_of, typed}
use mathlib.Core.Path.{sym, ap, ◌∙◌}
use borrow.Author.Tests.{eq-eqb, ne_eqb}
use Rattle.fields.proofs.header.MHDR.from_byte.Goals as goal

pub returns-then-b-ne-MARK : goal.returns-then-b-ne-MARK
unfolding header_of
returns-then-b-ne-MARK c = simp (ne_eqb _ _ c.if-b-ne-MARK.true)

pub returns-in-Refused : goal.returns-in-Refused
unfolding header_of
returns-in-Refused c = simp (eq-eqb _ _ c.if-b-ne-MARK.false) (ap (typed (c.args.b % 8 + 1)) (sym c.in-Refused.is ∙ c.from_byte.ensures))

pub returns-in-Kind : goal.returns-in-Kind
unfolding header_of
returns-in-Kind c = simp (eq-eqb _ _ c.if-b-ne-MARK.false) (ap (typed (c.args.b % 8 + 1)) (sym c.in-Kind.is ∙ c.from_byte.ensures))
