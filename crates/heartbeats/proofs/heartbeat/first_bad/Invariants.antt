-- `heartbeats::heartbeat::first_bad`: what the turns have found so far.
use Rattle.std.proofs.Common.{◌-◌, ◌≡◌, ◌≤◌, length, take}
use Rattle.base.specs.Lists.{first_of}
use Rattle.fields.specs.Path.{bad_entry}
use Rattle.heartbeats.proofs.heartbeat.first_bad.Given as goal

abbrev pub invariant-loop-i : goal.invariant-loop-i
invariant-loop-i l = (l.i ≤ length l.relay_path) × (l.bad ≡ first_of bad_entry (take l.i l.relay_path))

abbrev pub decreases-loop-i : goal.decreases-loop-i
decreases-loop-i l = l.n - l.i
