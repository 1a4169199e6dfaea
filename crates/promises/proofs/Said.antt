-- What an answer says, it is: so that a promise may ask by `..Says` what a law below asks of the answer itself. Assumes nothing.
use Prim.Native.Nat.{ℕ}
use native.Mathlib.Omega.{arith}
use mathlib.Core.Path.{◌≡◌}
use Rattle.base.specs.Answers.{value, number}
use Rattle.fields.specs.Header.{header_says, byte_says}
use Rattle.fields.specs.Signal.{signal_says}
use Rattle.fields.specs.Freq.{steps_says}
use Rattle.fields.specs.declared.freq.StepsRead.{StepsRead}
use Rattle.fields.specs.declared.freq.StepsRead.TheVariants as steps
use Rattle.fields.specs.declared.header.MHDR.{MHDR}
use Rattle.fields.specs.declared.header.HeaderRead.{HeaderRead}
use Rattle.fields.specs.declared.header.HeaderRead.TheVariants as header
use Rattle.fields.specs.declared.header.HeaderByte.{HeaderByte}
use Rattle.fields.specs.declared.header.HeaderByte.TheVariants as byte
use Rattle.fields.specs.declared.signal.SignalByte.{SignalByte}
use Rattle.fields.specs.declared.signal.SignalByte.TheVariants as signal
use Rattle.items.specs.Items.{item_says, kept_item}
use Rattle.items.specs.declared.item.Item.{Item}
use Rattle.items.specs.declared.item.ItemRead.{ItemRead}
use Rattle.items.specs.declared.item.ItemRead.TheVariants as item
use Rattle.items.specs.declared.count.Opening.{Opening}
use Rattle.contents.specs.declared.content.Content.{Content}
use Rattle.links.specs.Read.{uplink_says, downlink_says}
use Rattle.links.specs.declared.uplink.UplinkPayload.{UplinkPayload}
use Rattle.links.specs.declared.uplink.UplinkRead.{UplinkRead}
use Rattle.links.specs.declared.uplink.UplinkRead.TheVariants as uplink
use Rattle.links.specs.declared.downlink.DownlinkPayload.{DownlinkPayload}
use Rattle.links.specs.declared.downlink.DownlinkRead.{DownlinkRead}
use Rattle.links.specs.declared.downlink.DownlinkRead.TheVariants as downlink
use Rattle.events.specs.Read.{event_says, command_says}
use Rattle.events.specs.declared.stamped.EventPayload.{EventPayload}
use Rattle.events.specs.declared.stamped.EventRead.{EventRead}
use Rattle.events.specs.declared.stamped.EventRead.TheVariants as event
use Rattle.events.specs.declared.stamped.CommandPayload.{CommandPayload}
use Rattle.events.specs.declared.stamped.CommandRead.{CommandRead}
use Rattle.events.specs.declared.stamped.CommandRead.TheVariants as command
use Rattle.packets.specs.Read.{mesh_says, packet_says}
use Rattle.packets.specs.declared.mesh.MeshPacket.{MeshPacket}
use Rattle.packets.specs.declared.mesh.MeshRead.{MeshRead}
use Rattle.packets.specs.declared.mesh.MeshRead.TheVariants as mesh
use Rattle.packets.specs.declared.any.Packet.{Packet}
use Rattle.packets.specs.declared.any.PacketRead.{PacketRead}
use Rattle.packets.specs.declared.any.PacketRead.TheVariants as packet
use Rattle.sealing.specs.Open.{told, opened_says}
use Rattle.sealing.specs.declared.content.Opened.{Opened}
use Rattle.sealing.specs.declared.content.Opened.TheVariants as opened

never : ◌≡◌ {A = ℕ} 0 1 → ⊥
never e = omega arith

pub header_said : (r : HeaderRead) (h : MHDR) → header_says r ≡ value h → r ≡ header.Header h
header_said (header.Header k) h e = cc
header_said (header.Refused n) h e = absurd (never (cc))

pub byte_said : (r : HeaderByte) (b : ℕ) → byte_says r ≡ value b → r ≡ byte.Byte b
byte_said (byte.Byte k) b e = cc
byte_said (byte.Refused n) b e = absurd (never (cc))

pub signal_said : (r : SignalByte) (b : ℕ) → signal_says r ≡ value b → r ≡ signal.Byte b
signal_said (signal.Byte k) b e = cc
signal_said (signal.Refused n) b e = absurd (never (cc))

pub steps_refused : (r : StepsRead) (n : ℕ) → steps_says r ≡ number n → r ≡ steps.Refused n
steps_refused (steps.Steps k) n e = absurd (never (cc))
steps_refused (steps.Refused k) n e = cc

pub item_said : (r : ItemRead) (i : Item) (next : ℕ) → item_says r ≡ value (kept_item i next) → r ≡ item.Kept i next
item_said (item.Kept j k) i next e = cc
item_said (item.Skipped j k) i next e = absurd (never (cc))
item_said (item.Cut r k) i next e = absurd (never (cc))
item_said (item.End k) i next e = absurd (never (cc))
item_said (item.Refused n) i next e = absurd (never (cc))

pub uplink_said : (r : UplinkRead) (p : UplinkPayload) → uplink_says r ≡ value p → r ≡ uplink.Payload p
uplink_said (uplink.Payload q) p e = cc
uplink_said (uplink.Refused n) p e = absurd (never (cc))

pub downlink_said : (r : DownlinkRead) (p : DownlinkPayload) → downlink_says r ≡ value p → r ≡ downlink.Payload p
downlink_said (downlink.Payload q) p e = cc
downlink_said (downlink.Refused n) p e = absurd (never (cc))

pub event_said : (r : EventRead) (p : EventPayload) → event_says r ≡ value p → r ≡ event.Payload p
event_said (event.Payload q) p e = cc
event_said (event.Refused n) p e = absurd (never (cc))

pub command_said : (r : CommandRead) (p : CommandPayload) → command_says r ≡ value p → r ≡ command.Payload p
command_said (command.Payload q) p e = cc
command_said (command.Refused n) p e = absurd (never (cc))

pub opened_said : (r : Opened) (c : Content) (o : Opening) → opened_says r ≡ value (told c o) → r ≡ opened.Opened c o
opened_said (opened.Opened b k) c o e = cc
opened_said opened.AlreadyOpen c o e = absurd (never (cc))
opened_said (opened.Refused n) c o e = absurd (never (cc))

pub mesh_said : (r : MeshRead) (p : MeshPacket) → mesh_says r ≡ value p → r ≡ mesh.Mesh p
mesh_said (mesh.Mesh q) p e = cc
mesh_said (mesh.Refused n) p e = absurd (never (cc))

pub mesh_refused : (r : MeshRead) (n : ℕ) → mesh_says r ≡ number n → r ≡ mesh.Refused n
mesh_refused (mesh.Mesh q) n e = absurd (never (cc))
mesh_refused (mesh.Refused k) n e = cc

pub packet_said : (r : PacketRead) (p : Packet) → packet_says r ≡ value p → r ≡ packet.Packet p
packet_said (packet.Packet q) p e = cc
packet_said (packet.Refused n) p e = absurd (never (cc))
