-- `heartbeats::heartbeat::entry_at` meets its contract. Assumes nothing.
use Rattle.heartbeats.specs.Heartbeat.{entry_at}
use Rattle.heartbeats.proofs.heartbeat.entry_at.Goals as goal

pub returns : goal.returns
unfolding entry_at
returns c = c.from_bytes.ensures
