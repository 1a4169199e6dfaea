-- `fields::freq::halved` meets its contract. Assumes nothing.
use Rattle.fields.specs.Freq.{halved_of}
use native.Mathlib.Omega.{arith}
use borrow.Author.Tests.{le-leb, lt-leb}
use Rattle.fields.proofs.freq.halved.Goals as goal

pub returns-then-freq-ge-WIDE_FROM : goal.returns-then-freq-ge-WIDE_FROM
unfolding halved_of
returns-then-freq-ge-WIDE_FROM c = simp (le-leb 2400000000 c.args.freq (omega arith))

pub returns-else-freq-ge-WIDE_FROM : goal.returns-else-freq-ge-WIDE_FROM
unfolding halved_of
returns-else-freq-ge-WIDE_FROM c = simp (lt-leb 2400000000 c.args.freq (omega arith))
