-- `heartbeats::heartbeat::HeartbeatPayload::write`: the output after i turns, of which there are no more than the list has entries and the output room.
use Rattle.std.proofs.Common.{◌-◌, ◌≡◌, ◌≤◌, length}
use Rattle.heartbeats.proofs.Steps.{Fits, packed}
use Rattle.heartbeats.proofs.heartbeat.HeartbeatPayload.write.Given as goal

abbrev pub invariant-loop-i : goal.invariant-loop-i
invariant-loop-i l = (l.i ≤ l.n) × (l.out ≡ packed l.relay_path l.initial.out l.i) × Fits (length l.initial.out) (length l.relay_path) l.n

abbrev pub decreases-loop-i : goal.decreases-loop-i
decreases-loop-i l = l.n - l.i
