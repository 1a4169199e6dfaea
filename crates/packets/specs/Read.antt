-- Frames read, with the refusals in their order, 4.1 of the rules. Assumes nothing.
use Rattle.std.specs.Prelude.{ℕ, ◌-◌, ◌/◌, true, List, ltb, eqb, length, get_or, take, drop}
use Rattle.base.specs.Pick.{pick}
use Rattle.base.specs.Numbers.{frame_empty, frame_short, frame_long, frame_most}
use Rattle.base.specs.Answers.{Answer, value, number}
use Rattle.fields.specs.Header.{header_of}
use Rattle.fields.specs.declared.header.MHDR.{MHDR}
use Rattle.fields.specs.declared.header.PayloadType.{PayloadType}
use Rattle.fields.specs.declared.header.PayloadType.TheVariants.{Uplink, Downlink, Event, Command}
use Rattle.fields.specs.declared.header.HeaderRead.{HeaderRead}
use Rattle.fields.specs.declared.header.HeaderRead.TheVariants.{Header, Refused as NoHeader}
use Rattle.links.specs.Read.{four_at, uplink_at, even_uplink, downlink_at}
use Rattle.events.specs.Read.{event_at, command_at}
use Rattle.links.specs.declared.uplink.UplinkRead.{UplinkRead}
use Rattle.links.specs.declared.uplink.UplinkRead.TheVariants.{Payload as UplinkIs, Refused as NoUplink}
use Rattle.links.specs.declared.downlink.DownlinkRead.{DownlinkRead}
use Rattle.links.specs.declared.downlink.DownlinkRead.TheVariants.{Payload as DownlinkIs, Refused as NoDownlink}
use Rattle.events.specs.declared.stamped.EventRead.{EventRead}
use Rattle.events.specs.declared.stamped.EventRead.TheVariants.{Payload as EventIs, Refused as NoEvent}
use Rattle.events.specs.declared.stamped.CommandRead.{CommandRead}
use Rattle.events.specs.declared.stamped.CommandRead.TheVariants.{Payload as CommandIs, Refused as NoCommand}
use Rattle.packets.specs.declared.mesh.Payload.{Payload}
use Rattle.packets.specs.declared.mesh.Payload.TheVariants.{Uplink as AnUplink, Downlink as ADownlink, Event as AnEvent, Command as ACommand}
use Rattle.packets.specs.declared.mesh.PayloadRead.{PayloadRead}
use Rattle.packets.specs.declared.mesh.PayloadRead.TheVariants.{Payload as PayloadIs, Refused as NoPayload}
use Rattle.packets.specs.declared.mesh.MeshPacket.{MeshPacket}
use Rattle.packets.specs.declared.mesh.MeshRead.{MeshRead}
use Rattle.packets.specs.declared.mesh.MeshRead.TheVariants.{Mesh, Refused}
use Rattle.packets.specs.declared.any.Packet.{Packet}
use Rattle.packets.specs.declared.any.Packet.TheVariants.{Mesh as AMesh, Lora}
use Rattle.packets.specs.declared.any.PacketRead.{PacketRead}
use Rattle.packets.specs.declared.any.PacketRead.TheVariants.{Packet as PacketIs, Refused as NoPacket}

-- the body: all between the first byte and the last four
abbrev pub body_in : List ℕ → List ℕ
body_in s = take (length s - 4 - 1) (drop 1 s)

abbrev pub of_uplink : UplinkRead → PayloadRead
of_uplink (UplinkIs p) = PayloadIs (AnUplink p)
of_uplink (NoUplink n) = NoPayload n

abbrev pub of_downlink : DownlinkRead → PayloadRead
of_downlink (DownlinkIs p) = PayloadIs (ADownlink p)
of_downlink (NoDownlink n) = NoPayload n

abbrev pub of_event : EventRead → PayloadRead
of_event (EventIs p) = PayloadIs (AnEvent p)
of_event (NoEvent n) = NoPayload n

abbrev pub of_command : CommandRead → PayloadRead
of_command (CommandIs p) = PayloadIs (ACommand p)
of_command (NoCommand n) = NoPayload n

-- by its type, and at byte 1 of its frame
unfoldable pub payload_at : PayloadType → List ℕ → PayloadRead
payload_at Uplink b = of_uplink (uplink_at 1 b)
payload_at Downlink b = of_downlink (downlink_at 1 b)
payload_at Event b = of_event (event_at 1 b)
payload_at Command b = of_command (command_at 1 b)

abbrev pub with_payload : List ℕ → MHDR → PayloadRead → MeshRead
with_payload s h (PayloadIs p) = Mesh (record { mhdr = h; payload = p; has_mic = true; mic = four_at s (length s - 4) })
with_payload s h (NoPayload n) = Refused n

abbrev pub with_header : List ℕ → HeaderRead → MeshRead
with_header s (NoHeader n) = Refused n
with_header s (Header h) = with_payload s h (payload_at h.payload_type (body_in s))

unfoldable pub mesh_of : List ℕ → MeshRead
mesh_of s =
    pick (eqb (length s) 0) (Refused frame_empty)
    (pick (ltb frame_most (length s)) (Refused frame_long)
    (pick (ltb (length s) 5) (Refused frame_short) (with_header s (header_of (get_or s 0 0)))))

-- any other top bits than 111 are a LoRa frame
abbrev pub of_mesh : MeshRead → PacketRead
of_mesh (Mesh p) = PacketIs (AMesh p)
of_mesh (Refused n) = NoPacket n

unfoldable pub packet_of : List ℕ → PacketRead
packet_of s =
    pick (eqb (length s) 0) (NoPacket frame_empty)
    (pick (ltb frame_most (length s)) (NoPacket frame_long)
    (pick (eqb (get_or s 0 0 / 32) 7) (of_mesh (mesh_of s)) (PacketIs (Lora (record { start = 0; len = length s })))))

-- the packet as it was, but for the payload
abbrev pub carrying : MeshPacket → Payload → MeshPacket
carrying p q = record { mhdr = p.mhdr; payload = q; has_mic = p.has_mic; mic = p.mic }

-- an uplink's odd bits, which no other kind has; and without them
abbrev pub odd_in : Payload → ℕ
odd_in (AnUplink u) = u.metadata.odd
odd_in (ADownlink u) = 0
odd_in (AnEvent u) = 0
odd_in (ACommand u) = 0

abbrev pub even_payload : Payload → Payload
even_payload (AnUplink u) = AnUplink (even_uplink u)
even_payload (ADownlink u) = ADownlink u
even_payload (AnEvent u) = AnEvent u
even_payload (ACommand u) = ACommand u

abbrev pub even_mesh : MeshPacket → MeshPacket
even_mesh p = carrying p (even_payload p.payload)

-- the refusal's number, or the value
abbrev pub mesh_says : MeshRead → Answer MeshPacket
mesh_says (Mesh p) = value p
mesh_says (Refused n) = number n

abbrev pub packet_says : PacketRead → Answer Packet
packet_says (PacketIs p) = value p
packet_says (NoPacket n) = number n
