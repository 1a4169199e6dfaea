-- No refusal of any call carries the number 0: of every definition that a public call's answer is an equation with, over every input. So a
-- number that is 0 says that the call accepted. Assumes nothing.
use Prim.Native.Nat.{ℕ, zero, suc, ◌+◌, ◌-◌, ◌/◌, ◌%◌, ◌<◌}
use native.Mathlib.Omega.{arith}
use mathlib.Core.Bool.{Bool, true, false}
use mathlib.Core.Path.{◌≡◌, refl, ap}
use mathlib.Core.List.{List, [], ◌∷◌}
use lib.Dec.{ltb, leb, eqb}
use lib.IntN.{ℤ, pos, negsuc}
use lib.ListN.{length, get_or, take}
use borrow.Author.Tests.{eqb-false}
use Rattle.base.specs.Pick.{pick}
use Rattle.base.specs.Lists.{first_of}
use Rattle.base.specs.Numbers.{mic_missing, frame_most, message_most, body_most, payload_most, path_most, cache_most}
use Rattle.base.specs.Answers.{Answer, value, number, number_in, Writing, bytes, refused, unless_refused, checked_of, answer_of, written_says, checked_says}
use Rattle.wire.specs.Part.{reach_of}
use Rattle.keys.specs.Key.{key_from_slice, key_from_text, key_says}
use Rattle.fields.specs.Header.{type_read, typed, header_of, header_byte, type_says, header_says, byte_says}
use Rattle.fields.specs.Freq.{hertz_in, freq_read, halved_of, steps_of, unless_other, exact_steps, steps_wire, freq_wire, freq_bytes, steps_says, freq_says}
use Rattle.fields.specs.Signal.{rssi_byte, snr_byte, signal_says}
use Rattle.fields.specs.Meta.{id_bytes, id_refusal, after_snr, after_rssi, up_wire, up_bytes, down_refusal, after_freq, down_wire, down_bytes}
use Rattle.fields.specs.Path.{path_wire, path_bytes, bad_entry}
use Rattle.fields.specs.declared.header.MHDR.{MHDR}
use Rattle.fields.specs.declared.header.PayloadType.{PayloadType}
use Rattle.fields.specs.declared.header.PayloadType.TheVariants as type
use Rattle.fields.specs.declared.header.TypeRead.{TypeRead}
use Rattle.fields.specs.declared.header.TypeRead.TheVariants.{Kind, Refused as NoKind}
use Rattle.fields.specs.declared.header.HeaderRead.{HeaderRead}
use Rattle.fields.specs.declared.header.HeaderRead.TheVariants.{Header, Refused as NoHeader}
use Rattle.fields.specs.declared.header.HeaderByte.{HeaderByte}
use Rattle.fields.specs.declared.header.HeaderByte.TheVariants.{Byte, Refused as NoByte}
use Rattle.fields.specs.declared.freq.StepsRead.{StepsRead}
use Rattle.fields.specs.declared.freq.StepsRead.TheVariants.{Steps as StepsAre, Refused as NoSteps}
use Rattle.fields.specs.declared.signal.SignalByte.{SignalByte}
use Rattle.fields.specs.declared.signal.SignalByte.TheVariants.{Byte as ASignal, Refused as NoSignal}
use Rattle.fields.specs.declared.meta.UplinkMetadata.{UplinkMetadata}
use Rattle.fields.specs.declared.meta.DownlinkMetadata.{DownlinkMetadata}
use Rattle.fields.specs.declared.path.RelayPath.{RelayPath}
use Rattle.items.specs.Items.{bad_beat, opening_of, item_at, bare_item_at, counts_of, item_says, counts_say}
use Rattle.items.specs.declared.item.Item.{Item}
use Rattle.items.specs.declared.item.ItemKind.{ItemKind}
use Rattle.items.specs.declared.item.ItemKind.TheVariants as kind
use Rattle.composed_items.specs.One.{strange_kind, one_refusal, one_wire, sealed_wire, encoded_in, encoded_by, encoded_of}
use Rattle.heartbeats.specs.Heartbeat.{entry_at, beat_refusal, entry_refusal, beat_of, beat_wire, entry_read, beat_says, path_says}
use Rattle.heartbeats.specs.declared.heartbeat.HeartbeatRead.TheVariants.{Heartbeat, Refused as NoBeat}
use Rattle.heartbeats.specs.declared.heartbeat.PathRead.TheVariants.{Entry, Refused as NoEntry}
use Rattle.key_stream.specs.Stream.{sealed_of}
use Rattle.wire.specs.Number.{be_bytes}
use Rattle.wire.specs.Hex.{all_hex}
use Rattle.wire.specs.Run.{run_refusal, run_bytes}
use Rattle.wire.specs.declared.run.Run.{Run}
use Rattle.contents.specs.Content.{Lent, held_in, content_refusal, content_bytes, content_wire}
use Rattle.contents.specs.declared.content.Content.{Content}
use Rattle.contents.specs.declared.content.Content.TheVariants.{Empty, Sealed, Open, Items}
use Rattle.links.specs.Read.{uplink_at, downlink_at, uplink_says, downlink_says}
use Rattle.links.specs.Write.{followed, headed_by, limited, limited_of, with_mic, uplink_head, uplink_wire, downlink_head, downlink_wire}
use Rattle.links.specs.declared.uplink.UplinkPayload.{UplinkPayload}
use Rattle.links.specs.declared.uplink.UplinkRead.{UplinkRead}
use Rattle.links.specs.declared.uplink.UplinkRead.TheVariants as uplink
use Rattle.links.specs.declared.downlink.DownlinkPayload.{DownlinkPayload}
use Rattle.links.specs.declared.downlink.DownlinkRead.{DownlinkRead}
use Rattle.links.specs.declared.downlink.DownlinkRead.TheVariants as downlink
use Rattle.events.specs.Read.{stamped_at, as_event, as_command, event_at, command_at, event_says, command_says}
use Rattle.events.specs.Write.{stamp, stamped_wire, event_wire, command_wire}
use Rattle.events.specs.declared.stamped.EventPayload.{EventPayload}
use Rattle.events.specs.declared.stamped.EventRead.{EventRead}
use Rattle.events.specs.declared.stamped.EventRead.TheVariants as event
use Rattle.events.specs.declared.stamped.CommandPayload.{CommandPayload}
use Rattle.events.specs.declared.stamped.CommandRead.{CommandRead}
use Rattle.events.specs.declared.stamped.CommandRead.TheVariants as command
use Rattle.packets.specs.Read.{body_in, of_uplink, of_downlink, of_event, of_command, payload_at, with_payload, with_header, mesh_of, of_mesh, packet_of, mesh_says, packet_says}
use Rattle.packets.specs.Write.{payload_wire, kinds_in, behind, message_of, mesh_frame, lora_frame, packet_frame}
use Rattle.packets.specs.declared.mesh.Payload.{Payload}
use Rattle.packets.specs.declared.mesh.Payload.TheVariants.{Uplink, Downlink, Event, Command}
use Rattle.packets.specs.declared.mesh.PayloadRead.{PayloadRead}
use Rattle.packets.specs.declared.mesh.PayloadRead.TheVariants.{Payload as PayloadIs, Refused as NoPayload}
use Rattle.packets.specs.declared.mesh.MeshPacket.{MeshPacket}
use Rattle.packets.specs.declared.mesh.MeshRead.{MeshRead}
use Rattle.packets.specs.declared.mesh.MeshRead.TheVariants.{Mesh, Refused as NoMesh}
use Rattle.packets.specs.declared.any.Packet.{Packet}
use Rattle.packets.specs.declared.any.Packet.TheVariants.{Mesh as AMesh, Lora}
use Rattle.sealing.specs.Open.{refused_or, open_refusal, opened_by, seal_wire, read_sealed, refuse_open, tell_open, decrypt_of, decode_of, opened_says}
use Rattle.sealing.specs.Seal.{content_seal, event_seal, event_sealed, command_seal, command_sealed, event_opened, command_opened, event_opened_says, command_opened_says}
use Rattle.sealing.specs.Mesh.{of_event_sealed, of_command_sealed, mesh_sealed, of_event_opened, of_command_opened, mesh_decrypted, mesh_decoded, mesh_opened_says}
use Rattle.sealing.specs.declared.content.Opened.{Opened}
use Rattle.sealing.specs.declared.content.Opened.TheVariants.{Opened as Now, AlreadyOpen, Refused as NotOpened}
use Rattle.sealing.specs.declared.event.EventOpened.{EventOpened}
use Rattle.sealing.specs.declared.event.EventOpened.TheVariants as event_opened_lem
use Rattle.sealing.specs.declared.command.CommandOpened.{CommandOpened}
use Rattle.sealing.specs.declared.command.CommandOpened.TheVariants as command_opened_lem
use Rattle.base.specs.declared.Checked.{Checked}
use Rattle.base.specs.declared.Written.{Written}
use Rattle.base.specs.declared.Written.TheVariants.{Bytes, Refused as NotWritten}
use Rattle.mic.specs.Mic.{mic_of, fitting, signed_of, signed_by, set_mic, compared_by, validate_mic, valid_says}
use Rattle.mic.specs.declared.Validated.TheVariants.{Refused as NotValidated}
use Rattle.hops.specs.Hops.{alone, carrying_count, written_of, signed_anew, hop_edit, leaves}
use Rattle.cache.specs.Cache.{has, pack_of, add_says}
use Rattle.cache.specs.inner.Ring.{ring_count, new_of, added_of}
use Rattle.cache.specs.declared.record.PayloadCache.{PayloadCache}
use Rattle.cache.specs.declared.ring.Cache.{Cache}
use Rattle.cache.specs.declared.ring.CacheNew.{CacheNew}
use Rattle.cache.specs.declared.ring.Added.{Added}
use Rattle.cache_words.specs.inner.Packed.{size_in, count_in, is_below, clear_answer, adds_answer, add_answer}
use Rattle.promises.specs.Said.{Accepts, Numbered, reach_says}

-- ---- what the number of an answer says

pub zero_accepts : {A : Type 0} (a : Answer A) → Numbered a → number_in a ≡ 0 → Accepts a
zero_accepts (value v) s e = (v, refl)
zero_accepts (number n) s e = absurd (omega arith)

pub accepts_zero : {A : Type 0} (a : Answer A) → Accepts a → number_in a ≡ 0
accepts_zero a s = ap number_in s.1

pub says_number : {A : Type 0} (n : ℕ) (a : Answer A) → number_in a ≡ suc n → a ≡ number (suc n)
says_number n (value v) e = absurd (omega arith)
says_number n (number k) e = ap number e

-- ---- chains of tests

pub picked : {A : Type 0} → {B : Type 0} → (f : B → Answer A) (t : Bool) (x y : B) → Numbered (f x) → Numbered (f y) → Numbered (f (pick t x y))
picked f true x y a b = a
picked f false x y a b = b

-- what is to be written, or the number
abbrev frame_says : Writing → Answer (List ℕ)
frame_says (bytes w) = value w
frame_says (refused n) = number n

more : (k : ℕ) → eqb k 0 ≡ false → 0 < k
more zero e = absurd (eqb-false 0 0 e refl)
more (suc k) e = omega arith

unless : (k : ℕ) (f : Writing) → Numbered (frame_says f) → Numbered (frame_says (unless_refused k f))
unless k f s = by (eqb k 0) refl where
  by : (t : Bool) → eqb k 0 ≡ t → Numbered (frame_says (pick t f (refused k)))
  by true e = s
  by false e = more k e

writes : (f : Writing) (o : List ℕ) → Numbered (frame_says f) → Numbered (written_says (answer_of f o))
unfolding answer_of
writes (refused n) o s = s
writes (bytes w) o s = picked written_says (ltb (length o) (length w)) _ _ (omega arith) tt

checks : {A : Type 0} (f : Writing) (a : A) → Numbered (frame_says f) → Numbered (checked_says (checked_of f) a)
checks (refused n) a s = s
checks (bytes w) a s = tt

-- ---- fields

type_read_lem : (n : ℕ) → Numbered (type_says (type_read n))
unfolding type_read
type_read_lem n = picked type_says (eqb n 0) _ _ tt (picked type_says (eqb n 1) _ _ tt (picked type_says (eqb n 2) _ _ tt (picked type_says (eqb n 3) _ _ tt (omega arith))))

header_by : (hops : ℕ) (t : TypeRead) → Numbered (type_says t) → Numbered (header_says (typed hops t))
header_by hops (Kind t) s = tt
header_by hops (NoKind n) s = s

header_read : (b : ℕ) → Numbered (header_says (header_of b))
unfolding header_of
header_read b = picked header_says (eqb (b / 32) 7) _ _ (header_by (b % 8 + 1) (type_read (b / 8 % 4)) (type_read_lem (b / 8 % 4))) (omega arith)

header_byte_lem : (h : MHDR) → Numbered (byte_says (header_byte h))
unfolding header_byte
header_byte_lem h = picked byte_says (ltb h.hop_count 1) _ _ (omega arith) (picked byte_says (ltb 8 h.hop_count) _ _ (omega arith) tt)

other : (f : ℕ) (x : StepsRead) → Numbered (steps_says x) → Numbered (steps_says (unless_other f x))
other f (StepsAre n) s = picked steps_says (eqb (hertz_in (be_bytes 3 n)) f) _ _ tt (omega arith)
other f (NoSteps n) s = s

steps : (f : ℕ) → Numbered (steps_says (exact_steps f))
unfolding exact_steps steps_of
steps f = other f (steps_of f) (picked steps_says (ltb 16777215 (halved_of f / 100)) _ _ (omega arith) (picked steps_says (eqb (halved_of f % 100) 0) _ _ tt (omega arith)))

frequency_by : (x : StepsRead) → Numbered (steps_says x) → Numbered (frame_says (steps_wire x))
frequency_by (StepsAre n) s = tt
frequency_by (NoSteps n) s = s

frequency_wire : (f : ℕ) → Numbered (frame_says (freq_wire f))
frequency_wire f = frequency_by (exact_steps f) (steps f)

frequency_read : (s : List ℕ) → Numbered (freq_says (freq_read s))
unfolding freq_read
frequency_read s = picked freq_says (eqb (length s) 3) _ _ tt (omega arith)

rssi_byte_lem : (x : ℤ) → Numbered (signal_says (rssi_byte x))
unfolding rssi_byte
rssi_byte_lem (pos zero) = tt
rssi_byte_lem (pos (suc n)) = omega arith
rssi_byte_lem (negsuc n) = picked signal_says (ltb n 255) _ _ tt (omega arith)

snr_byte_lem : (x : ℤ) → Numbered (signal_says (snr_byte x))
unfolding snr_byte
snr_byte_lem (pos n) = picked signal_says (ltb n 32) _ _ tt (omega arith)
snr_byte_lem (negsuc n) = picked signal_says (ltb n 32) _ _ tt (omega arith)

after_snr_lem : (before after : List ℕ) (r : ℕ) (s : SignalByte) → Numbered (signal_says s) → Numbered (frame_says (after_snr before after r s))
after_snr_lem before after r (ASignal b) s = tt
after_snr_lem before after r (NoSignal n) s = s

after_rssi_lem : (before after : List ℕ) (s r : SignalByte) → Numbered (signal_says s) → Numbered (signal_says r) → Numbered (frame_says (after_rssi before after s r))
after_rssi_lem before after s (ASignal b) x y = after_snr_lem before after b s x
after_rssi_lem before after s (NoSignal n) x y = y

uplink_metadata : (m : UplinkMetadata) → Numbered (frame_says (up_wire m))
unfolding up_wire
uplink_metadata m =
    unless (id_refusal m.uplink_id m.dr) _
    (after_rssi_lem (id_bytes m.uplink_id m.dr) (m.channel ∷ []) (snr_byte m.snr) (rssi_byte m.rssi) (snr_byte_lem m.snr) (rssi_byte_lem m.rssi))

after_frequency : (m : DownlinkMetadata) (f : Writing) → Numbered (frame_says f) → Numbered (frame_says (after_freq m f))
after_frequency m (bytes w) s = tt
after_frequency m (refused n) s = s

downlink_metadata : (m : DownlinkMetadata) → Numbered (frame_says (down_wire m))
unfolding down_wire
downlink_metadata m = unless (down_refusal m) _ (after_frequency m (freq_wire m.frequency) (frequency_wire m.frequency))

path_entry : (p : RelayPath) → Numbered (frame_says (path_wire p))
unfolding path_wire
path_entry p = after_rssi_lem (be_bytes 4 p.relay_id) [] (snr_byte p.snr) (rssi_byte p.rssi) (snr_byte_lem p.snr) (rssi_byte_lem p.rssi)

-- ---- keys, items, heartbeats, the stream

key_bytes_lem : (s : List ℕ) → Numbered (key_says (key_from_slice s))
unfolding key_from_slice
key_bytes_lem s = picked key_says (eqb (length s) 16) _ _ tt (omega arith)

key_text : (s : List ℕ) → Numbered (key_says (key_from_text s))
unfolding key_from_text
key_text s = picked key_says (eqb (length s) 32) _ _ (picked key_says (all_hex s) _ _ tt (omega arith)) (omega arith)

item : (ev : Bool) (s : List ℕ) (at : ℕ) → Numbered (item_says (bare_item_at ev s at))
unfolding bare_item_at item_at
item ev s at =
    picked item_says (ltb payload_most (length s)) _ _ (omega arith)
    (picked item_says (leb (length s) at) _ _ tt
    (picked item_says (ltb (length s - at) 2) _ _ tt
    (picked item_says (ltb (length s - at - 2) (get_or s (at + 1) 0)) _ _ tt (picked item_says (bad_beat ev (get_or s at 0) (get_or s (at + 1) 0)) _ _ tt tt))))

counts : (ev : Bool) (s : List ℕ) → Numbered (counts_say (counts_of ev s))
unfolding counts_of
counts ev s = picked counts_say (ltb payload_most (length s)) _ _ (omega arith) tt

heartbeat : (v : List ℕ) (places : ℕ) → Numbered (beat_says (beat_of v places))
unfolding beat_of
heartbeat v places = by (eqb (beat_refusal (length v) places) 0) refl where
  by : (t : Bool) → eqb (beat_refusal (length v) places) 0 ≡ t → Numbered (beat_says (pick t (Heartbeat (record { entries = length v / 6 })) (NoBeat (beat_refusal (length v) places))))
  by true e = tt
  by false e = more (beat_refusal (length v) places) e

entry : (v : List ℕ) (i : ℕ) → Numbered (path_says (entry_read v i))
unfolding entry_read
entry v i = by (eqb (entry_refusal (length v) i) 0) refl where
  by : (t : Bool) → eqb (entry_refusal (length v) i) 0 ≡ t → Numbered (path_says (pick t (Entry (entry_at v i)) (NoEntry (entry_refusal (length v) i))))
  by true e = tt
  by false e = more (entry_refusal (length v) i) e

path : (ps : List RelayPath) → Numbered (frame_says (beat_wire ps))
unfolding beat_wire
path ps = unless (first_of bad_entry ps) _ (picked frame_says (ltb path_most (length ps)) _ _ (omega arith) tt)

alone_item : (ev : Bool) (kind tag : ℕ) (v : List ℕ) → Numbered (frame_says (one_wire ev kind tag v))
unfolding one_wire
alone_item ev kind tag v = unless (one_refusal ev kind tag (length v)) _ tt

encoded_in_lem : (ev : Bool) (kind tag : ℕ) (r : Run) (s : List ℕ) → Numbered (frame_says (encoded_in ev kind tag r s))
unfolding encoded_in
encoded_in_lem ev kind tag r s = picked frame_says (strange_kind ev kind) _ _ (omega arith) (unless (run_refusal (length s) r) _ (alone_item ev kind tag (run_bytes s r)))

encoded_by_lem : (ev : Bool) (k : ItemKind) (tag : ℕ) (r : Run) (s : List ℕ) → Numbered (frame_says (encoded_by ev k tag r s))
unfolding sealed_wire
encoded_by_lem ev kind.Encrypted tag r s = unless (run_refusal (length s) r) _ (picked frame_says (ltb payload_most (length (run_bytes s r))) _ _ (omega arith) tt)
encoded_by_lem ev kind.Heartbeat tag r s = encoded_in_lem ev 1 tag r s
encoded_by_lem ev kind.Proprietary tag r s = encoded_in_lem ev 2 tag r s

encoded : (ev : Bool) (i : Item) (s : List ℕ) → Numbered (frame_says (encoded_of ev i s))
unfolding encoded_of
encoded ev i s = encoded_by_lem ev i.kind i.tag i.value s

stream : (key : List ℕ) (ev : Bool) (relay time : ℕ) (s : List ℕ) → Numbered (frame_says (sealed_of key ev relay time s))
unfolding sealed_of
stream key ev relay time s = picked frame_says (ltb payload_most (length s)) _ _ (omega arith) tt

-- ---- bodies and frames read

uplink_read : (at : ℕ) (b : List ℕ) → Numbered (uplink_says (uplink_at at b))
unfolding uplink_at
uplink_read at b = picked uplink_says (ltb body_most (length b)) _ _ (omega arith) (picked uplink_says (ltb (length b) 9) _ _ (omega arith) tt)

downlink_read : (at : ℕ) (b : List ℕ) → Numbered (downlink_says (downlink_at at b))
unfolding downlink_at
downlink_read at b = picked downlink_says (ltb body_most (length b)) _ _ (omega arith) (picked downlink_says (ltb (length b) 10) _ _ (omega arith) tt)

event_read : (at : ℕ) (b : List ℕ) → Numbered (event_says (event_at at b))
unfolding event_at stamped_at
event_read at b =
    picked (λ r. event_says (as_event r)) (ltb body_most (length b)) _ _ (omega arith) (picked (λ r. event_says (as_event r)) (ltb (length b) 8) _ _ (omega arith) tt)

command_read : (at : ℕ) (b : List ℕ) → Numbered (command_says (command_at at b))
unfolding command_at stamped_at
command_read at b =
    picked (λ r. command_says (as_command r)) (ltb body_most (length b)) _ _ (omega arith) (picked (λ r. command_says (as_command r)) (ltb (length b) 8) _ _ (omega arith) tt)

abbrev payload_says : PayloadRead → Answer Payload
payload_says (PayloadIs p) = value p
payload_says (NoPayload n) = number n

of_uplink_lem : (r : UplinkRead) → Numbered (uplink_says r) → Numbered (payload_says (of_uplink r))
of_uplink_lem (uplink.Payload p) s = tt
of_uplink_lem (uplink.Refused n) s = s

of_downlink_lem : (r : DownlinkRead) → Numbered (downlink_says r) → Numbered (payload_says (of_downlink r))
of_downlink_lem (downlink.Payload p) s = tt
of_downlink_lem (downlink.Refused n) s = s

of_event_lem : (r : EventRead) → Numbered (event_says r) → Numbered (payload_says (of_event r))
of_event_lem (event.Payload p) s = tt
of_event_lem (event.Refused n) s = s

of_command_lem : (r : CommandRead) → Numbered (command_says r) → Numbered (payload_says (of_command r))
of_command_lem (command.Payload p) s = tt
of_command_lem (command.Refused n) s = s

payload_read : (t : PayloadType) (b : List ℕ) → Numbered (payload_says (payload_at t b))
unfolding payload_at
payload_read type.Uplink b = of_uplink_lem (uplink_at 1 b) (uplink_read 1 b)
payload_read type.Downlink b = of_downlink_lem (downlink_at 1 b) (downlink_read 1 b)
payload_read type.Event b = of_event_lem (event_at 1 b) (event_read 1 b)
payload_read type.Command b = of_command_lem (command_at 1 b) (command_read 1 b)

with_payload_lem : (s : List ℕ) (h : MHDR) (r : PayloadRead) → Numbered (payload_says r) → Numbered (mesh_says (with_payload s h r))
with_payload_lem s h (PayloadIs p) x = tt
with_payload_lem s h (NoPayload n) x = x

with_header_lem : (s : List ℕ) (r : HeaderRead) → Numbered (header_says r) → Numbered (mesh_says (with_header s r))
with_header_lem s (Header h) x = with_payload_lem s h (payload_at h.payload_type (body_in s)) (payload_read h.payload_type (body_in s))
with_header_lem s (NoHeader n) x = x

pub mesh_read : (s : List ℕ) → Numbered (mesh_says (mesh_of s))
unfolding mesh_of
mesh_read s =
    picked mesh_says (eqb (length s) 0) _ _ (omega arith)
    (picked mesh_says (ltb frame_most (length s)) _ _ (omega arith)
    (picked mesh_says (ltb (length s) 5) _ _ (omega arith) (with_header_lem s (header_of (get_or s 0 0)) (header_read (get_or s 0 0)))))

of_mesh_lem : (r : MeshRead) → Numbered (mesh_says r) → Numbered (packet_says (of_mesh r))
of_mesh_lem (Mesh p) s = tt
of_mesh_lem (NoMesh n) s = s

pub packet_read : (s : List ℕ) → Numbered (packet_says (packet_of s))
unfolding packet_of
packet_read s =
    picked packet_says (eqb (length s) 0) _ _ (omega arith)
    (picked packet_says (ltb frame_most (length s)) _ _ (omega arith)
    (picked packet_says (eqb (get_or s 0 0 / 32) 7) _ _ (of_mesh_lem (mesh_of s) (mesh_read s)) tt))

-- ---- bodies and frames written

more_behind : (f : Writing) (v : List ℕ) → Numbered (frame_says f) → Numbered (frame_says (followed f v))
more_behind (bytes w) v s = tt
more_behind (refused n) v s = s

more_before : (h : List ℕ) (f : Writing) → Numbered (frame_says f) → Numbered (frame_says (headed_by h f))
more_before h (bytes w) s = tt
more_before h (refused n) s = s

uplink_wire_lem : (s : List ℕ) (u : UplinkPayload) → Numbered (frame_says (uplink_wire s u))
unfolding uplink_wire uplink_head
uplink_wire_lem s u =
    unless (run_refusal (length s) u.phy_payload) _
    (more_behind (uplink_head u) (run_bytes s u.phy_payload) (more_behind (up_wire u.metadata) (be_bytes 4 u.relay_id) (uplink_metadata u.metadata)))

downlink_wire_lem : (s : List ℕ) (u : DownlinkPayload) → Numbered (frame_says (downlink_wire s u))
unfolding downlink_wire downlink_head
downlink_wire_lem s u =
    unless (run_refusal (length s) u.phy_payload) _
    (more_behind (downlink_head u) (run_bytes s u.phy_payload) (more_behind (down_wire u.metadata) (be_bytes 4 u.relay_id) (downlink_metadata u.metadata)))

event_wire_lem : (l : Lent) (u : EventPayload) → Numbered (frame_says (event_wire l u))
unfolding event_wire stamped_wire content_wire
event_wire_lem l u = more_before (stamp u.timestamp u.relay_id) (content_wire true l u.events) (unless (content_refusal true l u.events) _ tt)

command_wire_lem : (l : Lent) (u : CommandPayload) → Numbered (frame_says (command_wire l u))
unfolding command_wire stamped_wire content_wire
command_wire_lem l u = more_before (stamp u.timestamp u.relay_id) (content_wire false l u.commands) (unless (content_refusal false l u.commands) _ tt)

within : (f : Writing) → Numbered (frame_says f) → Numbered (frame_says (limited_of f))
unfolding limited
within (bytes w) s = picked frame_says (ltb body_most (length w)) _ _ (omega arith) tt
within (refused n) s = s

payload_wire_lem : (l : Lent) (p : Payload) → Numbered (frame_says (payload_wire l p))
unfolding payload_wire
payload_wire_lem l (Uplink u) = uplink_wire_lem l.frame u
payload_wire_lem l (Downlink u) = downlink_wire_lem l.frame u
payload_wire_lem l (Event u) = event_wire_lem l u
payload_wire_lem l (Command u) = command_wire_lem l u

behind_byte : (h : HeaderByte) (f : Writing) → Numbered (byte_says h) → Numbered (frame_says f) → Numbered (frame_says (behind h f))
behind_byte (Byte b) f x y = more_before (b ∷ []) f y
behind_byte (NoByte n) f x y = x

message : (l : Lent) (p : MeshPacket) → Numbered (frame_says (message_of l p))
unfolding message_of
message l p = unless (kinds_in l p) _ (behind_byte (header_byte p.mhdr) (payload_wire l p.payload) (header_byte_lem p.mhdr) (payload_wire_lem l p.payload))

with_mic_lem : (has : Bool) (mic : ℕ) (f : Writing) → Numbered (frame_says f) → Numbered (frame_says (with_mic has mic f))
unfolding with_mic
with_mic_lem has mic (bytes w) s = picked frame_says has _ _ (picked frame_says (ltb message_most (length w)) _ _ (omega arith) tt) (omega arith)
with_mic_lem has mic (refused n) s = s

mesh_frame_lem : (l : Lent) (p : MeshPacket) → Numbered (frame_says (mesh_frame l p))
unfolding mesh_frame
mesh_frame_lem l p = with_mic_lem p.has_mic p.mic (message_of l p) (message l p)

lora_frame_lem : (s : List ℕ) (r : Run) → Numbered (frame_says (lora_frame s r))
unfolding lora_frame
lora_frame_lem s r = unless (run_refusal (length s) r) _ (picked frame_says (ltb frame_most r.len) _ _ (omega arith) tt)

packet_frame_lem : (l : Lent) (p : Packet) → Numbered (frame_says (packet_frame l p))
unfolding packet_frame
packet_frame_lem l (AMesh p) = mesh_frame_lem l p
packet_frame_lem l (Lora r) = lora_frame_lem l.frame r

-- ---- sealed and opened

event_seal_lem : (key : List ℕ) (l : Lent) (u : EventPayload) → Numbered (frame_says (event_seal key l u))
unfolding event_seal content_seal
event_seal_lem key l u = unless (content_refusal true l u.events) _ (stream key true u.relay_id u.timestamp (content_bytes true l u.events))

command_seal_lem : (key : List ℕ) (l : Lent) (u : CommandPayload) → Numbered (frame_says (command_seal key l u))
unfolding command_seal content_seal
command_seal_lem key l u = unless (content_refusal false l u.commands) _ (stream key false u.relay_id u.timestamp (content_bytes false l u.commands))

event_sealed_lem : (u : EventPayload) (w : Written) → Numbered (written_says w) → Numbered (event_says (event_sealed u w))
unfolding event_sealed
event_sealed_lem u (Bytes n) s = tt
event_sealed_lem u (NotWritten n) s = s

command_sealed_lem : (u : CommandPayload) (w : Written) → Numbered (written_says w) → Numbered (command_says (command_sealed u w))
unfolding command_sealed
command_sealed_lem u (Bytes n) s = tt
command_sealed_lem u (NotWritten n) s = s

of_event_sealed_lem : (p : MeshPacket) (r : EventRead) → Numbered (event_says r) → Numbered (mesh_says (of_event_sealed p r))
of_event_sealed_lem p (event.Payload u) s = tt
of_event_sealed_lem p (event.Refused n) s = s

of_command_sealed_lem : (p : MeshPacket) (r : CommandRead) → Numbered (command_says r) → Numbered (mesh_says (of_command_sealed p r))
of_command_sealed_lem p (command.Payload u) s = tt
of_command_sealed_lem p (command.Refused n) s = s

mesh_sealed_lem : (key : List ℕ) (l : Lent) (p : MeshPacket) (q : Payload) (o : List ℕ) → Numbered (mesh_says (mesh_sealed key l p q o))
unfolding mesh_sealed
mesh_sealed_lem key l p (Uplink u) o = tt
mesh_sealed_lem key l p (Downlink u) o = tt
mesh_sealed_lem key l p (Event u) o = of_event_sealed_lem p (event_sealed u (answer_of (event_seal key l u) o)) (event_sealed_lem u (answer_of (event_seal key l u) o) (writes (event_seal key l u) o (event_seal_lem key l u)))
mesh_sealed_lem key l p (Command u) o = of_command_sealed_lem p (command_sealed u (answer_of (command_seal key l u) o)) (command_sealed_lem u (answer_of (command_seal key l u) o) (writes (command_seal key l u) o (command_seal_lem key l u)))

or_refused : (k : ℕ) (x : Opened) → Numbered (opened_says x) → Numbered (opened_says (refused_or k x))
or_refused k x s = by (eqb k 0) refl where
  by : (t : Bool) → eqb k 0 ≡ t → Numbered (opened_says (pick t x (NotOpened k)))
  by true e = s
  by false e = more k e

not_again : (kept outside : ℕ) → Numbered (opened_says (refuse_open kept outside))
not_again kept outside = or_refused (open_refusal kept) _ (or_refused outside _ tt)

opened_work : (ev : Bool) (f : Writing) (w : List ℕ) → Numbered (frame_says f) → Numbered (opened_says (opened_by ev f w))
unfolding opened_by
opened_work ev (bytes c) w s = picked opened_says (ltb (length w) (length c)) _ _ (omega arith) tt
opened_work ev (refused n) w s = s

decrypted : (key : List ℕ) (ev : Bool) (relay time : ℕ) (b : Content) (f w : List ℕ) → Numbered (opened_says (decrypt_of key ev relay time b f w))
unfolding decrypt_of
decrypted key ev relay time Empty f w = tt
decrypted key ev relay time (Sealed r) f w =
    opened_work ev (seal_wire key ev relay time f r) w (unless (run_refusal (length f) r) _ (stream key ev relay time (run_bytes f r)))
decrypted key ev relay time (Open h r) f w = not_again (opening_of ev (run_bytes (held_in h f w) r)).kept (run_refusal (length (held_in h f w)) r)
decrypted key ev relay time (Items n) f w = not_again n 0

told_open : (kept outside : ℕ) → Numbered (opened_says (tell_open kept outside))
told_open kept outside = picked opened_says (eqb outside 0) _ _ (picked opened_says (eqb kept 0) _ _ tt tt) tt

decoded : (ev : Bool) (b : Content) (f w : List ℕ) → Numbered (opened_says (decode_of ev b f w))
unfolding decode_of read_sealed
decoded ev Empty f w = tt
decoded ev (Sealed r) f w = or_refused (run_refusal (length f) r) _ (picked opened_says (ltb payload_most r.len) _ _ (omega arith) tt)
decoded ev (Open h r) f w = told_open (opening_of ev (run_bytes (held_in h f w) r)).kept (run_refusal (length (held_in h f w)) r)
decoded ev (Items n) f w = told_open n 0

event_opened_by : (u : EventPayload) (o : Opened) → Numbered (opened_says o) → Numbered (event_opened_says (event_opened u o))
event_opened_by u (Now b k) s = tt
event_opened_by u AlreadyOpen s = tt
event_opened_by u (NotOpened n) s = s

command_opened_by : (u : CommandPayload) (o : Opened) → Numbered (opened_says o) → Numbered (command_opened_says (command_opened u o))
command_opened_by u (Now b k) s = tt
command_opened_by u AlreadyOpen s = tt
command_opened_by u (NotOpened n) s = s

of_event_opened_lem : (p : MeshPacket) (o : EventOpened) → Numbered (event_opened_says o) → Numbered (mesh_opened_says (of_event_opened p o))
of_event_opened_lem p (event_opened_lem.Opened u k) s = tt
of_event_opened_lem p event_opened_lem.AlreadyOpen s = tt
of_event_opened_lem p (event_opened_lem.Refused n) s = s

of_command_opened_lem : (p : MeshPacket) (o : CommandOpened) → Numbered (command_opened_says o) → Numbered (mesh_opened_says (of_command_opened p o))
of_command_opened_lem p (command_opened_lem.Opened u k) s = tt
of_command_opened_lem p command_opened_lem.AlreadyOpen s = tt
of_command_opened_lem p (command_opened_lem.Refused n) s = s

mesh_decrypted_lem : (key : List ℕ) (p : MeshPacket) (q : Payload) (f w : List ℕ) → Numbered (mesh_opened_says (mesh_decrypted key p q f w))
unfolding mesh_decrypted
mesh_decrypted_lem key p (Uplink u) f w = tt
mesh_decrypted_lem key p (Downlink u) f w = tt
mesh_decrypted_lem key p (Event u) f w =
    let o = decrypt_of key true u.relay_id u.timestamp u.events f w in
    of_event_opened_lem p (event_opened u o) (event_opened_by u o (decrypted key true u.relay_id u.timestamp u.events f w))
mesh_decrypted_lem key p (Command u) f w =
    let o = decrypt_of key false u.relay_id u.timestamp u.commands f w in
    of_command_opened_lem p (command_opened u o) (command_opened_by u o (decrypted key false u.relay_id u.timestamp u.commands f w))

mesh_decoded_lem : (p : MeshPacket) (q : Payload) (f w : List ℕ) → Numbered (mesh_opened_says (mesh_decoded p q f w))
unfolding mesh_decoded
mesh_decoded_lem p (Uplink u) f w = tt
mesh_decoded_lem p (Downlink u) f w = tt
mesh_decoded_lem p (Event u) f w = let o = decode_of true u.events f w in of_event_opened_lem p (event_opened u o) (event_opened_by u o (decoded true u.events f w))
mesh_decoded_lem p (Command u) f w = let o = decode_of false u.commands f w in of_command_opened_lem p (command_opened u o) (command_opened_by u o (decoded false u.commands f w))

-- ---- signed, validated, edited

signed_frame : (l : Lent) (p : MeshPacket) → Numbered (frame_says (signed_of l p))
unfolding signed_of fitting
signed_frame l p = by (message_of l p) (message l p) where
  by : (f : Writing) → Numbered (frame_says f) → Numbered (frame_says (fitting f))
  by (bytes w) s = picked frame_says (ltb message_most (length w)) _ _ (omega arith) tt
  by (refused n) s = s

signed : (E : List ℕ → List ℕ) (l : Lent) (p : MeshPacket) → Numbered (mesh_says (set_mic E l p))
unfolding set_mic
signed E l p = by (signed_of l p) (signed_frame l p) where
  by : (f : Writing) → Numbered (frame_says f) → Numbered (mesh_says (signed_by E p f))
  by (bytes w) s = tt
  by (refused n) s = s

validated : (E : List ℕ → List ℕ) (l : Lent) (p : MeshPacket) → Numbered (valid_says (validate_mic E l p))
unfolding validate_mic
validated E l p = kinds (eqb (kinds_in l p) 0) refl where
  by : (f : Writing) → Numbered (frame_says f) → Numbered (valid_says (compared_by E p.mic f))
  by (bytes w) s = picked valid_says (eqb p.mic (mic_of E w)) _ _ tt tt
  by (refused n) s = s

  kinds : (t : Bool) → eqb (kinds_in l p) 0 ≡ t → Numbered (valid_says (pick t (pick p.has_mic (compared_by E p.mic (signed_of l p)) (NotValidated mic_missing)) (NotValidated (kinds_in l p))))
  kinds true e = picked valid_says p.has_mic _ _ (by (signed_of l p) (signed_frame l p)) (omega arith)
  kinds false e = more (kinds_in l p) e

hop_edit_lem : (E : List ℕ → List ℕ) (s : List ℕ) (n : ℕ) → Numbered (frame_says (hop_edit E s n))
unfolding hop_edit
hop_edit_lem E s n = by (mesh_of s) (mesh_read s) where
  wrote : (r : MeshRead) → Numbered (mesh_says r) → Numbered (frame_says (written_of (alone s) r))
  wrote (Mesh p) x = mesh_frame_lem (alone s) p
  wrote (NoMesh k) x = x

  by : (r : MeshRead) → Numbered (mesh_says r) → Numbered (frame_says (signed_anew E s n r))
  by (Mesh p) x = wrote (set_mic E (alone s) (carrying_count p n)) (signed E (alone s) (carrying_count p n))
  by (NoMesh k) x = x

-- ---- the cache, by value and in words

abbrev made_says : CacheNew → Answer Cache
made_says c = checked_says c.answer c.cache

new_cache : (n : ℕ) → Numbered (checked_says (new_of n).answer (new_of n).cache)
unfolding new_of
new_cache n = picked made_says (ltb n 1) _ _ (omega arith) (picked made_says (ltb cache_most n) _ _ (omega arith) tt)

abbrev added_says : Added → Answer Bool
added_says a = add_says a.answer

added : (c : Cache) (r : PayloadCache) → Numbered (add_says (added_of c r).answer)
unfolding added_of
added c r =
    picked added_says (ltb c.size 1) _ _ (omega arith)
    (picked added_says (ltb cache_most c.size) _ _ (omega arith) (picked added_says (has (take (ring_count c) c.slots) r) _ _ tt tt))

cleared_words_lem : (size : ℕ) → Numbered (checked_says (clear_answer size) size)
unfolding clear_answer
cleared_words_lem size =
    picked (λ (c : Checked). checked_says c size) (ltb size 1) _ _ (omega arith) (picked (λ (c : Checked). checked_says c size) (ltb cache_most size) _ _ (omega arith) tt)

added_word : (w : List ℕ) (r : PayloadCache) → Numbered (add_says (add_answer w r))
unfolding adds_answer
added_word w r =
    picked add_says (ltb (size_in w) 1) _ _ (omega arith)
    (picked add_says (ltb cache_most (size_in w)) _ _ (omega arith) (picked add_says (is_below w (pack_of r) (count_in w)) _ _ tt tt))

reach : (n start len : ℕ) → Numbered (reach_says (reach_of n start len))
unfolding reach_of
reach n start len =
    picked reach_says (eqb len 0) _ _ tt (picked reach_says (ltb n start) _ _ (omega arith) (picked reach_says (ltb (n - start) len) _ _ (omega arith) tt))

-- ---- all of them

-- no refusal of a public call carries 0, whatever it is given; a call whose answer is a number alone (`refusal`, `kinds_refusal`) says 0 for
-- none, and has no refusal that could carry it
pub record NoZero : Type 0 where
  -- keys
  pub from_slice : (s : List ℕ) → Numbered (key_says (key_from_slice s))
  pub from_str : (s : List ℕ) → Numbered (key_says (key_from_text s))
  -- a place in a list
  pub reaches : (n start len : ℕ) → Numbered (reach_says (reach_of n start len))
  -- what only 21 is asked of: keys and their text, frames and lines dumped
  pub of_bytes : (w out : List ℕ) → Numbered (written_says (answer_of (bytes w) out))
  -- fields
  pub type_from_byte : (n : ℕ) → Numbered (type_says (type_read n))
  pub header_from_byte : (b : ℕ) → Numbered (header_says (header_of b))
  pub header_to_byte : (h : MHDR) → Numbered (byte_says (header_byte h))
  pub in_steps : (hertz : ℕ) → Numbered (steps_says (exact_steps hertz))
  pub encode_freq : (hertz : ℕ) → Numbered (checked_says (freq_bytes hertz).answer (freq_bytes hertz).bytes)
  pub decode_freq : (s : List ℕ) → Numbered (freq_says (freq_read s))
  pub rssi_to_byte : (x : ℤ) → Numbered (signal_says (rssi_byte x))
  pub snr_to_byte : (x : ℤ) → Numbered (signal_says (snr_byte x))
  pub uplink_to_bytes : (m : UplinkMetadata) → Numbered (checked_says (up_bytes m).answer (up_bytes m).bytes)
  pub downlink_to_bytes : (m : DownlinkMetadata) → Numbered (checked_says (down_bytes m).answer (down_bytes m).bytes)
  pub path_to_bytes : (p : RelayPath) → Numbered (checked_says (path_bytes p).answer (path_bytes p).bytes)
  -- items, heartbeats, the stream
  pub decode_item : (ev : Bool) (s : List ℕ) (at : ℕ) → Numbered (item_says (bare_item_at ev s at))
  pub write_item : (ev : Bool) (kind tag : ℕ) (v out : List ℕ) → Numbered (written_says (answer_of (one_wire ev kind tag v) out))
  pub encode_item : (ev : Bool) (i : Item) (s out : List ℕ) → Numbered (written_says (answer_of (encoded_of ev i s) out))
  pub count_items : (ev : Bool) (s : List ℕ) → Numbered (counts_say (counts_of ev s))
  pub heartbeat_from_slice : (v : List ℕ) (places : ℕ) → Numbered (beat_says (beat_of v places))
  pub heartbeat_entry : (v : List ℕ) (i : ℕ) → Numbered (path_says (entry_read v i))
  pub heartbeat_write : (ps : List RelayPath) (out : List ℕ) → Numbered (written_says (answer_of (beat_wire ps) out))
  pub encrypt_stream : (key : List ℕ) (ev : Bool) (relay time : ℕ) (s out : List ℕ) → Numbered (written_says (answer_of (sealed_of key ev relay time s) out))
  -- frames and bodies, read and written
  pub packet_from_slice : (s : List ℕ) → Numbered (packet_says (packet_of s))
  pub mesh_from_slice : (s : List ℕ) → Numbered (mesh_says (mesh_of s))
  pub uplink_from_slice : (at : ℕ) (b : List ℕ) → Numbered (uplink_says (uplink_at at b))
  pub downlink_from_slice : (at : ℕ) (b : List ℕ) → Numbered (downlink_says (downlink_at at b))
  pub event_from_slice : (at : ℕ) (b : List ℕ) → Numbered (event_says (event_at at b))
  pub command_from_slice : (at : ℕ) (b : List ℕ) → Numbered (command_says (command_at at b))
  pub packet_write : (l : Lent) (p : Packet) (out : List ℕ) → Numbered (written_says (answer_of (packet_frame l p) out))
  pub mesh_write : (l : Lent) (p : MeshPacket) (out : List ℕ) → Numbered (written_says (answer_of (mesh_frame l p) out))
  pub body_write : (l : Lent) (p : Payload) (out : List ℕ) → Numbered (written_says (answer_of (limited_of (payload_wire l p)) out))
  -- sealed and opened
  pub mesh_encrypt : (key : List ℕ) (l : Lent) (p : MeshPacket) (q : Payload) (out : List ℕ) → Numbered (mesh_says (mesh_sealed key l p q out))
  pub event_encrypt : (key : List ℕ) (l : Lent) (u : EventPayload) (out : List ℕ) → Numbered (event_says (event_sealed u (answer_of (event_seal key l u) out)))
  pub command_encrypt : (key : List ℕ) (l : Lent) (u : CommandPayload) (out : List ℕ) → Numbered (command_says (command_sealed u (answer_of (command_seal key l u) out)))
  pub mesh_decrypt : (key : List ℕ) (p : MeshPacket) (q : Payload) (f w : List ℕ) → Numbered (mesh_opened_says (mesh_decrypted key p q f w))
  pub event_decrypt : (key : List ℕ) (relay time : ℕ) (u : EventPayload) (f w : List ℕ) → Numbered (event_opened_says (event_opened u (decrypt_of key true relay time u.events f w)))
  pub command_decrypt : (key : List ℕ) (relay time : ℕ) (u : CommandPayload) (f w : List ℕ) → Numbered (command_opened_says (command_opened u (decrypt_of key false relay time u.commands f w)))
  pub content_decrypt : (key : List ℕ) (ev : Bool) (relay time : ℕ) (b : Content) (f w : List ℕ) → Numbered (opened_says (decrypt_of key ev relay time b f w))
  pub mesh_decode : (p : MeshPacket) (q : Payload) (f w : List ℕ) → Numbered (mesh_opened_says (mesh_decoded p q f w))
  pub event_decode : (u : EventPayload) (f w : List ℕ) → Numbered (event_opened_says (event_opened u (decode_of true u.events f w)))
  pub command_decode : (u : CommandPayload) (f w : List ℕ) → Numbered (command_opened_says (command_opened u (decode_of false u.commands f w)))
  pub content_decode : (ev : Bool) (b : Content) (f w : List ℕ) → Numbered (opened_says (decode_of ev b f w))
  -- signed, validated, edited, under any cipher
  pub set_mic_lem : (E : List ℕ → List ℕ) (l : Lent) (p : MeshPacket) → Numbered (mesh_says (set_mic E l p))
  pub validate_mic_lem : (E : List ℕ → List ℕ) (l : Lent) (p : MeshPacket) → Numbered (valid_says (validate_mic E l p))
  pub set_hop_count : (E : List ℕ → List ℕ) (s : List ℕ) (n : ℕ) → Numbered (checked_says (checked_of (hop_edit E s n)) (leaves (hop_edit E s n) s))
  -- the cache, and the cache in words
  pub cache_new : (size : ℕ) → Numbered (checked_says (new_of size).answer (new_of size).cache)
  pub cache_add : (c : Cache) (r : PayloadCache) → Numbered (add_says (added_of c r).answer)
  pub words_clear : (size : ℕ) → Numbered (checked_says (clear_answer size) size)
  pub words_add : (w : List ℕ) (r : PayloadCache) → Numbered (add_says (add_answer w r))

pub no_refusal_is_0 : NoZero
unfolding freq_bytes up_bytes down_bytes path_bytes
no_refusal_is_0 =
    record {
      from_slice = key_bytes_lem;
      from_str = key_text;
      reaches = reach;
      of_bytes = λ w out. writes (bytes w) out tt;
      type_from_byte = type_read_lem;
      header_from_byte = header_read;
      header_to_byte = header_byte_lem;
      in_steps = steps;
      encode_freq = λ f. checks (freq_wire f) _ (frequency_wire f);
      decode_freq = frequency_read;
      rssi_to_byte = rssi_byte_lem;
      snr_to_byte = snr_byte_lem;
      uplink_to_bytes = λ m. checks (up_wire m) _ (uplink_metadata m);
      downlink_to_bytes = λ m. checks (down_wire m) _ (downlink_metadata m);
      path_to_bytes = λ p. checks (path_wire p) _ (path_entry p);
      decode_item = item;
      write_item = λ ev kind tag v out. writes (one_wire ev kind tag v) out (alone_item ev kind tag v);
      encode_item = λ ev i s out. writes (encoded_of ev i s) out (encoded ev i s);
      count_items = counts;
      heartbeat_from_slice = heartbeat;
      heartbeat_entry = entry;
      heartbeat_write = λ ps out. writes (beat_wire ps) out (path ps);
      encrypt_stream = λ key ev relay time s out. writes (sealed_of key ev relay time s) out (stream key ev relay time s);
      packet_from_slice = packet_read;
      mesh_from_slice = mesh_read;
      uplink_from_slice = uplink_read;
      downlink_from_slice = downlink_read;
      event_from_slice = event_read;
      command_from_slice = command_read;
      packet_write = λ l p out. writes (packet_frame l p) out (packet_frame_lem l p);
      mesh_write = λ l p out. writes (mesh_frame l p) out (mesh_frame_lem l p);
      body_write = λ l p out. writes (limited_of (payload_wire l p)) out (within (payload_wire l p) (payload_wire_lem l p));
      mesh_encrypt = mesh_sealed_lem;
      event_encrypt = λ key l u out. event_sealed_lem u (answer_of (event_seal key l u) out) (writes (event_seal key l u) out (event_seal_lem key l u));
      command_encrypt = λ key l u out. command_sealed_lem u (answer_of (command_seal key l u) out) (writes (command_seal key l u) out (command_seal_lem key l u));
      mesh_decrypt = mesh_decrypted_lem;
      event_decrypt = λ key relay time u f w. event_opened_by u (decrypt_of key true relay time u.events f w) (decrypted key true relay time u.events f w);
      command_decrypt = λ key relay time u f w. command_opened_by u (decrypt_of key false relay time u.commands f w) (decrypted key false relay time u.commands f w);
      content_decrypt = decrypted;
      mesh_decode = mesh_decoded_lem;
      event_decode = λ u f w. event_opened_by u (decode_of true u.events f w) (decoded true u.events f w);
      command_decode = λ u f w. command_opened_by u (decode_of false u.commands f w) (decoded false u.commands f w);
      content_decode = decoded;
      set_mic_lem = signed;
      validate_mic_lem = validated;
      set_hop_count = λ E s n. checks (hop_edit E s n) (leaves (hop_edit E s n) s) (hop_edit_lem E s n);
      cache_new = new_cache;
      cache_add = added;
      words_clear = cleared_words_lem;
      words_add = added_word;
    }
