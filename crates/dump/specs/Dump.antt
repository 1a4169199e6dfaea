-- The text of a frame, and of a line of hex over it. No newline is in either. Assumes nothing.
use Rattle.std.specs.Prelude.{ℕ, zero, suc, ◌+◌, ◌-◌, ◌*◌, ◌/◌, ◌%◌, Bool, true, false, not, List, [], ◌∷◌, ◌++◌, ltb, leb, eqb, length}
use Rattle.base.specs.Pick.{pick}
use Rattle.base.specs.Numbers.{line_digits}
use Rattle.wire.specs.Number.{be_bytes}
use Rattle.wire.specs.Hex.{all_hex, unhex, hex_text}
use Rattle.fields.specs.Limits.{odd_most}
use Rattle.fields.specs.declared.header.PayloadType.{PayloadType}
use Rattle.fields.specs.declared.header.PayloadType.TheVariants.{Uplink, Downlink, Event, Command}
use Rattle.packets.specs.Read.{packet_of}
use Rattle.packets.specs.declared.mesh.Payload.{Payload}
use Rattle.packets.specs.declared.mesh.Payload.TheVariants.{Uplink as AnUplink, Downlink as ADownlink, Event as AnEvent, Command as ACommand}
use Rattle.packets.specs.declared.mesh.MeshPacket.{MeshPacket}
use Rattle.packets.specs.declared.any.Packet.{Packet}
use Rattle.packets.specs.declared.any.Packet.TheVariants.{Mesh, Lora}
use Rattle.packets.specs.declared.any.PacketRead.{PacketRead}
use Rattle.packets.specs.declared.any.PacketRead.TheVariants.{Packet as PacketIs, Refused}
use Rattle.dump.specs.Ascii.{ascii}

-- ---- numbers

-- the digits of n, the highest first, and no more than the last k of them
unfoldable pub last_digits : ℕ → ℕ → List ℕ
last_digits zero n = []
last_digits (suc k) n = pick (ltb n 10) ((48 + n) ∷ []) (last_digits k (n / 10) ++ ((48 + n % 10) ∷ []))

-- in decimal, without leading zeros: no u32 has more than ten digits
unfoldable pub decimal : ℕ → List ℕ
decimal n = last_digits 10 n

-- the number that digits are read as, behind v
unfoldable pub from_digits : ℕ → List ℕ → ℕ
from_digits v [] = v
from_digits v (d ∷ s) = from_digits (v * 10 + (d - 48)) s

-- four bytes, kept as one number, in hex
abbrev pub four_text : ℕ → List ℕ
four_text n = hex_text (be_bytes 4 n)

-- ---- frames

abbrev pub name_of : PayloadType → List ℕ
name_of Uplink = ascii "Uplink"
name_of Downlink = ascii "Downlink"
name_of Event = ascii "Event"
name_of Command = ascii "Command"

unfoldable pub label_of : PayloadType → List ℕ
label_of t = ascii "[" ++ name_of t ++ ascii " hop_count: "

-- odd bits are told where there are some, and no more than two: one digit, 1 to 3
abbrev pub is_told : ℕ → Bool
is_told n = pick (eqb n 0) false (leb n odd_most)

unfoldable pub odd_text : ℕ → List ℕ
odd_text n = pick (is_told n) (ascii " odd: " ++ ((48 + n) ∷ [])) []

-- word and tail are what uplinks and events have of their own
unfoldable pub line_of : PayloadType → ℕ → List ℕ → ℕ → ℕ → List ℕ → ℕ → List ℕ
line_of t hops word n relay tail odd =
    label_of t ++ decimal hops ++ word ++ decimal n ++ ascii ", relay_id: " ++ four_text relay ++ tail ++ odd_text odd ++ ascii "]"

-- nothing where there is none, as in the Rust
abbrev pub mic_text : Bool → ℕ → List ℕ
mic_text has mic = pick has (four_text mic) []

-- of an uplink or a downlink
abbrev pub link_text : PayloadType → ℕ → ℕ → ℕ → Bool → ℕ → ℕ → List ℕ
link_text t hops id relay has mic odd = line_of t hops (ascii ", uplink_id: ") id relay (ascii ", mic: " ++ mic_text has mic) odd

-- of an event or a command; a timestamp is plain seconds
abbrev pub stamped_text : PayloadType → ℕ → ℕ → ℕ → List ℕ
stamped_text t hops timestamp relay = line_of t hops (ascii ", timestamp: ") timestamp relay [] 0

abbrev pub payload_text : PayloadType → ℕ → Bool → ℕ → Payload → List ℕ
payload_text t hops has mic (AnUplink p) = link_text t hops p.metadata.uplink_id p.relay_id has mic p.metadata.odd
payload_text t hops has mic (ADownlink p) = link_text t hops p.metadata.uplink_id p.relay_id has mic 0
payload_text t hops has mic (AnEvent p) = stamped_text t hops p.timestamp p.relay_id
payload_text t hops has mic (ACommand p) = stamped_text t hops p.timestamp p.relay_id

-- the label goes by the header's type and the fields by the payload's kind, as in the Rust
unfoldable pub mesh_text : MeshPacket → List ℕ
mesh_text p = payload_text p.mhdr.payload_type p.mhdr.hop_count p.has_mic p.mic p.payload

abbrev pub with_number : List ℕ → ℕ → List ℕ
with_number word n = word ++ decimal n

abbrev pub refused_text : ℕ → List ℕ
refused_text n = with_number (ascii "refused ") n

-- of a LoRa frame its length
abbrev pub packet_text : Packet → List ℕ
packet_text (Mesh p) = mesh_text p
packet_text (Lora r) = with_number (ascii "lora ") r.len

abbrev pub read_text : PacketRead → List ℕ
read_text (PacketIs p) = packet_text p
read_text (Refused n) = refused_text n

unfoldable pub frame_text : List ℕ → List ℕ
frame_text s = read_text (packet_of s)

-- ---- lines of hex

-- an odd count of digits, or a byte that is none
unfoldable pub bad_hex : List ℕ → Bool
bad_hex s = pick (eqb (length s % 2) 0) (not (all_hex s)) true

-- 30 comes before all that the packet reader refuses
unfoldable pub line_text : List ℕ → List ℕ
line_text s = pick (bad_hex s) (refused_text line_digits) (frame_text (unhex s))
