-- `heartbeats::heartbeat::verdict` meets its contract. Assumes nothing.
use Rattle.base.proofs.Picks.{picks}
use Rattle.heartbeats.specs.inner.Steps.{beat_verdict}
use Rattle.heartbeats.proofs.heartbeat.verdict.Goals as goal

pub returns-then-bad-ne0 : goal.returns-then-bad-ne0
unfolding beat_verdict
returns-then-bad-ne0 c = search picks

pub returns-then-n-gt-PATH : goal.returns-then-n-gt-PATH
unfolding beat_verdict
returns-then-n-gt-PATH c = search picks

pub returns-then-room-n : goal.returns-then-room-n
unfolding beat_verdict
returns-then-room-n c = search picks

pub returns : goal.returns
unfolding beat_verdict
returns c = search picks
