-- `heartbeats::heartbeat::HeartbeatPayload::from_slice`: the list after i turns, of which there are no more than the value and the list have entries.
use Rattle.std.proofs.Common.{◌-◌, ◌≡◌, ◌≤◌, length}
use Rattle.heartbeats.proofs.Steps.{Fits, filled}
use Rattle.heartbeats.proofs.heartbeat.HeartbeatPayload.from_slice.Given as goal

abbrev pub invariant-loop-i : goal.invariant-loop-i
invariant-loop-i l = (l.i ≤ l.n) × (l.relay_path ≡ filled l.b l.initial.relay_path l.i) × Fits (length l.b) (length l.initial.relay_path) l.n

abbrev pub decreases-loop-i : goal.decreases-loop-i
decreases-loop-i l = l.n - l.i
