-- `numbers::back::payload_of` meets its contract. Assumes nothing.
use mir.Facts.{to_z-of_z}
use mathlib.Core.Path.{ap}
use Rattle.packets.specs.declared.mesh.Payload.TheVariants.{Uplink, Downlink}
use Rattle.numbers.proofs.back.payload_of.Goals as goal

pub returns-in-Uplink : goal.returns-in-Uplink
returns-in-Uplink c =
    rw c.in-Uplink.is (ap Uplink (rw (to_z-of_z c.ranges.rssi, to_z-of_z c.ranges.snr) at c.uplink_of.ensures))

pub returns-in-Downlink : goal.returns-in-Downlink
returns-in-Downlink c =
    rw c.in-Downlink.is (ap Downlink c.downlink_of.ensures)

pub returns-in-Event : goal.returns-in-Event
returns-in-Event c =
    rw (c.in-Event.is, c.to_u32.ensures, c.to_u32-in-Event.ensures, c.content_of.ensures)

pub returns-in-Command : goal.returns-in-Command
returns-in-Command c =
    rw (c.in-Command.is, c.to_u32-in-Command.ensures, c.to_u32-in-Command-2.ensures, c.content_of-in-Command.ensures)
