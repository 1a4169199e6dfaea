-- `heartbeats::heartbeat::places_of` meets its contract. Assumes nothing.
use mathlib.Core.Path.{sym, ap}
use Rattle.heartbeats.specs.inner.Steps.{places_of}
use Rattle.heartbeats.proofs.heartbeat.places_of.Goals as goal

pub returns-in-Bytes : goal.returns-in-Bytes
returns-in-Bytes c = sym (ap places_of c.in-Bytes.is)
