-- `heartbeats::heartbeat::HeartbeatPayload::entry` meets its contract. Assumes nothing.
use mathlib.Core.Path.{ap, ◌∙◌}
use Rattle.heartbeats.specs.declared.heartbeat.PathRead.TheVariants.{Entry}
use Rattle.heartbeats.proofs.Steps.{entry_long, entry_outside, entry_there}
use Rattle.heartbeats.proofs.heartbeat.HeartbeatPayload.entry.Goals as goal

pub returns-then-none-ne0 : goal.returns-then-none-ne0
returns-then-none-ne0 c = entry_long _ _ c.bad_length-none.ensures _ c.if-none-ne0.true

pub returns-then-b-i : goal.returns-then-b-i
returns-then-b-i c = entry_outside _ _ c.bad_length-none.ensures _ c.if-none-ne0.false c.if-b-i.true

pub returns : goal.returns
returns c = ap Entry c.entry_at.ensures ∙ entry_there _ _ c.bad_length-none.ensures _ c.if-none-ne0.false c.if-b-i.false
