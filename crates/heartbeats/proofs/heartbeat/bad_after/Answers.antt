-- `heartbeats::heartbeat::bad_after` meets its contract. Assumes nothing.
use mathlib.Core.Path.{sym}
use Rattle.heartbeats.proofs.Steps.{or_first}
use Rattle.heartbeats.proofs.heartbeat.bad_after.Goals as goal

pub returns-then-bad-eq0 : goal.returns-then-bad-eq0
returns-then-bad-eq0 c = rw c.if-bad-eq0.true c.bad_entry.ensures

pub returns-else-bad-eq0 : goal.returns-else-bad-eq0
returns-else-bad-eq0 c = sym (or_first _ _ c.if-bad-eq0.false)
