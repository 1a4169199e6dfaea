-- `packets::mesh::read_body` meets its contract. Assumes nothing.
use Rattle.packets.specs.Read.{of_uplink, of_downlink, of_event, of_command, payload_at}
use mathlib.Core.Path.{sym, ap, ◌∙◌}
use Rattle.packets.proofs.mesh.read_body.Goals as goal

pub returns-in-Payload : goal.returns-in-Payload
unfolding payload_at
returns-in-Payload c = rw c.in-Uplink.is (ap of_uplink (sym c.in-Payload.is ∙ c.read_at.ensures))

pub returns-in-Refused : goal.returns-in-Refused
unfolding payload_at
returns-in-Refused c = rw c.in-Uplink.is (ap of_uplink (sym c.in-Refused.is ∙ c.read_at.ensures))

pub returns-in-Payload-read_at : goal.returns-in-Payload-read_at
unfolding payload_at
returns-in-Payload-read_at c = rw c.in-Downlink.is (ap of_downlink (sym c.in-Payload-read_at.is ∙ c.read_at-in-Downlink.ensures))

pub returns-in-Refused-read_at : goal.returns-in-Refused-read_at
unfolding payload_at
returns-in-Refused-read_at c = rw c.in-Downlink.is (ap of_downlink (sym c.in-Refused-read_at.is ∙ c.read_at-in-Downlink.ensures))

pub returns-in-Payload-read_at-2 : goal.returns-in-Payload-read_at-2
unfolding payload_at
returns-in-Payload-read_at-2 c = rw c.in-Event.is (ap of_event (sym c.in-Payload-read_at-2.is ∙ c.read_at-in-Event.ensures))

pub returns-in-Refused-read_at-2 : goal.returns-in-Refused-read_at-2
unfolding payload_at
returns-in-Refused-read_at-2 c = rw c.in-Event.is (ap of_event (sym c.in-Refused-read_at-2.is ∙ c.read_at-in-Event.ensures))

pub returns-in-Payload-read_at-3 : goal.returns-in-Payload-read_at-3
unfolding payload_at
returns-in-Payload-read_at-3 c = rw c.in-Command.is (ap of_command (sym c.in-Payload-read_at-3.is ∙ c.read_at-in-Command.ensures))

pub returns-in-Refused-read_at-3 : goal.returns-in-Refused-read_at-3
unfolding payload_at
returns-in-Refused-read_at-3 c = rw c.in-Command.is (ap of_command (sym c.in-Refused-read_at-3.is ∙ c.read_at-in-Command.ensures))
