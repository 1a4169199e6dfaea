-- `fields::signal::snr_byte` meets its contract. Assumes nothing.
use lib.IntN.{pos, ◌+ℤ◌}
use mir.Facts.{to_z-of_z}
use Rattle.fields.proofs.Laws.Signal.{snr_under, snr_over, snr_plus, snr_minus, SnrFits}
use Rattle.fields.proofs.signal.snr_byte.Goals as goal

pub returns-then-x-lt-LEAST : goal.returns-then-x-lt-LEAST
returns-then-x-lt-LEAST c = snr_under _ (rw (to_z-of_z c.ranges.x) at c.if-x-lt-LEAST.true)

pub returns-then-x-gt-MOST : goal.returns-then-x-gt-MOST
returns-then-x-gt-MOST c = snr_over _ (rw (to_z-of_z c.ranges.x) at c.if-x-gt-MOST.true)

pub overflow_add-result : goal.overflow_add-result
overflow_add-result c = rw (to_z-of_z c.ranges.x) (let minus : SnrFits c.args.x (c.args.x +ℤ pos 64) = snr_minus _ (rw (to_z-of_z c.ranges.x) at c.if-x-lt0.true) (rw (to_z-of_z c.ranges.x) at c.if-x-lt-LEAST.false) in minus).fits

pub overflow_cast-result : goal.overflow_cast-result
overflow_cast-result c = rw (to_z-of_z c.ranges.x, to_z-of_z (let minus : SnrFits c.args.x (c.args.x +ℤ pos 64) = snr_minus _ (rw (to_z-of_z c.ranges.x) at c.if-x-lt0.true) (rw (to_z-of_z c.ranges.x) at c.if-x-lt-LEAST.false) in minus).fits) ((let minus : SnrFits c.args.x (c.args.x +ℤ pos 64) = snr_minus _ (rw (to_z-of_z c.ranges.x) at c.if-x-lt0.true) (rw (to_z-of_z c.ranges.x) at c.if-x-lt-LEAST.false) in minus).sign, record { fits = (let minus : SnrFits c.args.x (c.args.x +ℤ pos 64) = snr_minus _ (rw (to_z-of_z c.ranges.x) at c.if-x-lt0.true) (rw (to_z-of_z c.ranges.x) at c.if-x-lt-LEAST.false) in minus).byte })

pub returns-then-x-lt0 : goal.returns-then-x-lt0
returns-then-x-lt0 c = rw (to_z-of_z c.ranges.x, to_z-of_z (let minus : SnrFits c.args.x (c.args.x +ℤ pos 64) = snr_minus _ (rw (to_z-of_z c.ranges.x) at c.if-x-lt0.true) (rw (to_z-of_z c.ranges.x) at c.if-x-lt-LEAST.false) in minus).fits) (let minus : SnrFits c.args.x (c.args.x +ℤ pos 64) = snr_minus _ (rw (to_z-of_z c.ranges.x) at c.if-x-lt0.true) (rw (to_z-of_z c.ranges.x) at c.if-x-lt-LEAST.false) in minus).wire

pub overflow_cast-result-2 : goal.overflow_cast-result-2
overflow_cast-result-2 c = rw (to_z-of_z c.ranges.x) ((let plus : SnrFits c.args.x c.args.x = snr_plus _ (rw (to_z-of_z c.ranges.x) at c.if-x-lt0.false) (rw (to_z-of_z c.ranges.x) at c.if-x-gt-MOST.false) in plus).sign, record { fits = (let plus : SnrFits c.args.x c.args.x = snr_plus _ (rw (to_z-of_z c.ranges.x) at c.if-x-lt0.false) (rw (to_z-of_z c.ranges.x) at c.if-x-gt-MOST.false) in plus).byte })

pub returns : goal.returns
returns c = rw (to_z-of_z c.ranges.x) (let plus : SnrFits c.args.x c.args.x = snr_plus _ (rw (to_z-of_z c.ranges.x) at c.if-x-lt0.false) (rw (to_z-of_z c.ranges.x) at c.if-x-gt-MOST.false) in plus).wire
