-- `fields::signal::rssi_byte` meets its contract. Assumes nothing.
use mir.Facts.{to_z-of_z}
use Rattle.fields.proofs.Laws.Signal.{rssi_over, rssi_under, rssi_fits, RssiFits}
use Rattle.fields.proofs.signal.rssi_byte.Goals as goal

pub returns-then-x-gt-MOST : goal.returns-then-x-gt-MOST
returns-then-x-gt-MOST c = rssi_over _ (rw (to_z-of_z c.ranges.x) at c.if-x-gt-MOST.true)

pub returns-then-x-lt-LEAST : goal.returns-then-x-lt-LEAST
returns-then-x-lt-LEAST c = rssi_under _ (rw (to_z-of_z c.ranges.x) at c.if-x-lt-LEAST.true)

pub overflow_sub-result : goal.overflow_sub-result
overflow_sub-result c = rw (to_z-of_z c.ranges.x) (let small : RssiFits c.args.x = rssi_fits _ (rw (to_z-of_z c.ranges.x) at c.if-x-gt-MOST.false) (rw (to_z-of_z c.ranges.x) at c.if-x-lt-LEAST.false) in small).fits

pub overflow_cast-result : goal.overflow_cast-result
overflow_cast-result c = rw (to_z-of_z c.ranges.x, to_z-of_z (let small : RssiFits c.args.x = rssi_fits _ (rw (to_z-of_z c.ranges.x) at c.if-x-gt-MOST.false) (rw (to_z-of_z c.ranges.x) at c.if-x-lt-LEAST.false) in small).fits) ((let small : RssiFits c.args.x = rssi_fits _ (rw (to_z-of_z c.ranges.x) at c.if-x-gt-MOST.false) (rw (to_z-of_z c.ranges.x) at c.if-x-lt-LEAST.false) in small).sign, record { fits = (let small : RssiFits c.args.x = rssi_fits _ (rw (to_z-of_z c.ranges.x) at c.if-x-gt-MOST.false) (rw (to_z-of_z c.ranges.x) at c.if-x-lt-LEAST.false) in small).byte })

pub returns : goal.returns
returns c = rw (to_z-of_z c.ranges.x, to_z-of_z (let small : RssiFits c.args.x = rssi_fits _ (rw (to_z-of_z c.ranges.x) at c.if-x-gt-MOST.false) (rw (to_z-of_z c.ranges.x) at c.if-x-lt-LEAST.false) in small).fits) (let small : RssiFits c.args.x = rssi_fits _ (rw (to_z-of_z c.ranges.x) at c.if-x-gt-MOST.false) (rw (to_z-of_z c.ranges.x) at c.if-x-lt-LEAST.false) in small).wire
