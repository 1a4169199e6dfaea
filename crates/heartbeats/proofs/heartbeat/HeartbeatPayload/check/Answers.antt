-- `heartbeats::heartbeat::HeartbeatPayload::check` meets its contract. Assumes nothing.
use Rattle.heartbeats.proofs.Steps.{check_long, check_short, check_takes}
use Rattle.heartbeats.proofs.heartbeat.HeartbeatPayload.check.Goals as goal

pub returns-then-refusal-ne0 : goal.returns-then-refusal-ne0
returns-then-refusal-ne0 c = check_long _ _ c.bad_length-refusal.ensures _ c.if-refusal-ne0.true

pub returns-then-places-n : goal.returns-then-places-n
returns-then-places-n c = check_short _ _ c.bad_length-refusal.ensures _ c.if-refusal-ne0.false c.if-places-n.true

pub returns : goal.returns
returns c = check_takes _ _ c.bad_length-refusal.ensures _ c.if-refusal-ne0.false c.if-places-n.false
