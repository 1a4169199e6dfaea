-- Frames written: the bytes, or the first refusal in the order 29, 6, 7, 45, body fields, 19, 20, 27, 5; 21 comes after, with the lent
-- output. Assumes nothing.
use Rattle.std.specs.Prelude.{ℕ, true, false, List, ltb, length}
use Rattle.base.specs.Pick.{pick}
use Rattle.base.specs.Numbers.{frame_long, frame_most}
use Rattle.base.specs.Answers.{Writing, bytes, refused, unless_refused}
use Rattle.fields.specs.Header.{header_byte}
use Rattle.fields.specs.declared.header.HeaderByte.{HeaderByte}
use Rattle.fields.specs.declared.header.HeaderByte.TheVariants.{Byte, Refused as NoByte}
use Rattle.wire.specs.Run.{run_refusal, run_bytes}
use Rattle.contents.specs.Content.{Lent, content_kinds}
use Rattle.links.specs.Write.{prefixed, with_mic, uplink_wire, downlink_wire}
use Rattle.events.specs.Write.{event_wire, command_wire}
use Rattle.wire.specs.declared.run.Run.{Run}
use Rattle.packets.specs.declared.mesh.Payload.{Payload}
use Rattle.packets.specs.declared.mesh.Payload.TheVariants.{Uplink, Downlink, Event, Command}
use Rattle.packets.specs.declared.mesh.MeshPacket.{MeshPacket}
use Rattle.packets.specs.declared.any.Packet.{Packet}
use Rattle.packets.specs.declared.any.Packet.TheVariants.{Mesh, Lora}

-- the body; what is lent holds its payload
unfoldable pub payload_wire : Lent → Payload → Writing
payload_wire l (Uplink p) = uplink_wire l.frame p
payload_wire l (Downlink p) = downlink_wire l.frame p
payload_wire l (Event p) = event_wire l p
payload_wire l (Command p) = command_wire l p

-- 29 of an event's or a command's composed items, by their kinds alone
unfoldable pub payload_kinds : List (List ℕ) → List (List ℕ) → Payload → ℕ
payload_kinds kinds spans (Uplink p) = 0
payload_kinds kinds spans (Downlink p) = 0
payload_kinds kinds spans (Event p) = content_kinds true kinds spans p.events
payload_kinds kinds spans (Command p) = content_kinds false kinds spans p.commands

abbrev pub kinds_in : Lent → MeshPacket → ℕ
kinds_in l p = payload_kinds l.lists.kinds l.lists.spans p.payload

abbrev pub behind : HeaderByte → Writing → Writing
behind (NoByte n) f = refused n
behind (Byte b) f = prefixed b f

-- header byte and body: what is signed, and what stands before the MIC
unfoldable pub message_of : Lent → MeshPacket → Writing
message_of l p = unless_refused (kinds_in l p) (behind (header_byte p.mhdr) (payload_wire l p.payload))

unfoldable pub mesh_frame : Lent → MeshPacket → Writing
mesh_frame l p = with_mic p.has_mic p.mic (message_of l p)

-- a LoRa frame is its bytes; of no bytes, no bytes
unfoldable pub lora_frame : List ℕ → Run → Writing
lora_frame s r = unless_refused (run_refusal (length s) r) (pick (ltb frame_most r.len) (refused frame_long) (bytes (run_bytes s r)))

unfoldable pub packet_frame : Lent → Packet → Writing
packet_frame l (Mesh p) = mesh_frame l p
packet_frame l (Lora r) = lora_frame l.frame r
