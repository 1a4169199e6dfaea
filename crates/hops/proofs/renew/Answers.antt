-- `hops::renew` meets its contract. Assumes nothing.
use Rattle.hops.specs.inner.Steps.{renewed}
use Rattle.hops.proofs.renew.Goals as goal

pub returns-then-up : goal.returns-then-up
unfolding renewed
returns-then-up c = rw c.if-up.true

pub returns-else-up : goal.returns-else-up
unfolding renewed
returns-else-up c = rw c.if-up.false
