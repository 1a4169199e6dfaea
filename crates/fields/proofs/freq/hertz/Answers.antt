-- `fields::freq::hertz` meets its contract. Assumes nothing.
use Rattle.wire.specs.Number.{be_more, be_of}
use Rattle.fields.specs.Freq.{hertz_of}
use Rattle.base.proofs.Picks.{picks}
use native.Mathlib.Omega.{arith}
use Rattle.fields.proofs.freq.hertz.Goals as goal

pub overflow_mul-result : goal.overflow_mul-result
unfolding be_more be_of
overflow_mul-result c = omega arith

pub returns-then-n-ge-WIDE_STEPS_FROM : goal.returns-then-n-ge-WIDE_STEPS_FROM
unfolding hertz_of
returns-then-n-ge-WIDE_STEPS_FROM c = rw (← c.be24_of-n.ensures) (search picks)

pub returns-else-n-ge-WIDE_STEPS_FROM : goal.returns-else-n-ge-WIDE_STEPS_FROM
unfolding hertz_of
returns-else-n-ge-WIDE_STEPS_FROM c = rw (← c.be24_of-n.ensures) (search picks)
