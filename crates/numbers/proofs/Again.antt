-- The numbers of a packet give that packet back, whichever it is. Assumes nothing.
use Prim.Native.Nat.{ℕ, ◌≤◌}
use native.Mathlib.Omega.{arith}
use mathlib.Core.Bool.{Bool, true, false, not}
use mathlib.Core.Path.{◌≡◌, refl, sym, ap, ◌∙◌}
use mathlib.Core.List.{List}
use lib.Dec.{eqb}
use lib.ListN.{get_or}
use borrow.Author.Tests.{le-ltb}
use Rattle.fields.specs.Limits.{mic_most, relay_id_most, channel_most, timestamp_most}
use Rattle.fields.specs.Header.{code_of, type_read}
use Rattle.fields.specs.declared.header.MHDR.{MHDR}
use Rattle.fields.specs.declared.header.PayloadType.{PayloadType}
use Rattle.fields.specs.declared.header.PayloadType.TheVariants.{Uplink, Downlink, Event, Command}
use Rattle.fields.specs.declared.header.TypeRead.TheVariants.{Kind}
use Rattle.fields.proofs.Laws.Header.{type_back}
use Rattle.contents.specs.declared.content.Held.TheVariants.{Frame as InFrame, Work as InWork}
use Rattle.contents.specs.declared.content.Content.{Content}
use Rattle.contents.specs.declared.content.Content.TheVariants.{Empty, Sealed, Open, Items}
use Rattle.packets.specs.Read.{of_mesh}
use Rattle.packets.specs.declared.mesh.Payload.{Payload}
use Rattle.packets.specs.declared.mesh.Payload.TheVariants.{Uplink as AnUplink, Downlink as ADownlink, Event as AnEvent, Command as ACommand}
use Rattle.packets.specs.declared.mesh.MeshPacket.{MeshPacket}
use Rattle.packets.specs.declared.mesh.MeshRead.TheVariants.{Mesh}
use Rattle.packets.specs.declared.any.Packet.{Packet}
use Rattle.packets.specs.declared.any.Packet.TheVariants.{Mesh as AMesh, Lora}
use Rattle.packets.specs.declared.any.PacketRead.TheVariants.{Packet as PacketIs}
use Rattle.numbers.specs.Numbers.{bit, payload_rssi, payload_snr, mesh_numbers, mesh_rssi, mesh_snr, numbers_in, rssi_in, snr_in, at_most, too_wide, strange_content, content_from, typed_by, kind_by, mesh_from, packet_from}
use Rattle.numbers.proofs.Laws.{mesh_known, packet_lora, packet_mesh}

-- each number within its field's width
pub record Fits (ns : List ℕ) : Type 0 where
  pub hops : get_or ns 2 0 ≤ 255
  pub mic : get_or ns 4 0 ≤ 4294967295
  pub relay : get_or ns 5 0 ≤ 4294967295
  pub id : get_or ns 6 0 ≤ 65535
  pub dr : get_or ns 7 0 ≤ 255
  pub channel : get_or ns 8 0 ≤ 255
  pub frequency : get_or ns 9 0 ≤ 4294967295
  pub power : get_or ns 10 0 ≤ 255
  pub delay : get_or ns 11 0 ≤ 255
  pub time : get_or ns 12 0 ≤ 4294967295
  pub odd : get_or ns 16 0 ≤ 255

at_most_lem : (most n : ℕ) → n ≤ most → at_most most n ≡ n
unfolding at_most
at_most_lem most n h = simp (le-ltb most n h)

not_wide : (ns : List ℕ) → Fits ns → too_wide ns ≡ false
unfolding too_wide
not_wide ns f =
    simp (le-ltb mic_most (get_or ns 4 0) f.mic, le-ltb relay_id_most (get_or ns 5 0) f.relay, le-ltb 65535 (get_or ns 6 0) f.id, le-ltb channel_most (get_or ns 8 0) f.channel, le-ltb timestamp_most (get_or ns 12 0) f.time)

bit_back : (b : Bool) → not (eqb (bit b) 0) ≡ b
bit_back true = refl
bit_back false = refl

module _ (h : MHDR) (has : Bool) (mic : ℕ) where
  abbrev packet : Payload → MeshPacket
  packet q = record { mhdr = h; payload = q; has_mic = has; mic = mic }

  abbrev ns : Payload → List ℕ
  ns q = mesh_numbers (packet q)

  -- the kind and the header's type, apart from each other
  reads : (q : Payload) (k : PayloadType) → Fits (ns q) → strange_content (ns q) ≡ false → get_or (ns q) 0 0 ≡ code_of k
      → mesh_from (ns q) (payload_rssi q) (payload_snr q) ≡ typed_by (ns q) (payload_rssi q) (payload_snr q) k (Kind h.payload_type)
  unfolding mesh_numbers
  reads q k f b e =
      mesh_known (ns q) _ _ false (sym (not_wide (ns q) f)) refl false (sym b) refl
      ∙ ap (kind_by (ns q) (payload_rssi q) (payload_snr q)) (ap type_read e ∙ type_back k)
      ∙ ap (typed_by (ns q) (payload_rssi q) (payload_snr q) k) (type_back h.payload_type)

  strange : (q : Payload) → strange_content (ns q) ≡ false
  unfolding mesh_numbers strange_content
  strange (AnUplink u) = refl
  strange (ADownlink u) = refl
  strange (AnEvent u) = by u.events where
    by : (b : Content) → strange_content (ns (AnEvent (record { timestamp = u.timestamp; relay_id = u.relay_id; events = b }))) ≡ false
    by Empty = refl
    by (Sealed r) = refl
    by (Open InFrame r) = refl
    by (Open InWork r) = refl
    by (Items n) = refl
  strange (ACommand u) = by u.commands where
    by : (b : Content) → strange_content (ns (ACommand (record { timestamp = u.timestamp; relay_id = u.relay_id; commands = b }))) ≡ false
    by Empty = refl
    by (Sealed r) = refl
    by (Open InFrame r) = refl
    by (Open InWork r) = refl
    by (Items n) = refl

  event_body : (time relay : ℕ) (b : Content) → content_from (ns (AnEvent (record { timestamp = time; relay_id = relay; events = b }))) ≡ b
  unfolding mesh_numbers content_from
  event_body time relay Empty = refl
  event_body time relay (Sealed r) = refl
  event_body time relay (Open InFrame r) = refl
  event_body time relay (Open InWork r) = refl
  event_body time relay (Items n) = refl

  command_body : (time relay : ℕ) (b : Content) → content_from (ns (ACommand (record { timestamp = time; relay_id = relay; commands = b }))) ≡ b
  unfolding mesh_numbers content_from
  command_body time relay Empty = refl
  command_body time relay (Sealed r) = refl
  command_body time relay (Open InFrame r) = refl
  command_body time relay (Open InWork r) = refl
  command_body time relay (Items n) = refl

  payload_back : (q : Payload) → Fits (ns q) → mesh_from (ns q) (payload_rssi q) (payload_snr q) ≡ Mesh (packet q)
  unfolding mesh_numbers
  payload_back (AnUplink u) f =
      reads (AnUplink u) Uplink f (strange (AnUplink u)) refl
      ∙ rw (at_most_lem 255 h.hop_count f.hops, at_most_lem 4294967295 mic f.mic, bit_back has, at_most_lem 4294967295 u.relay_id f.relay, at_most_lem 65535 u.metadata.uplink_id f.id, at_most_lem 255 u.metadata.dr f.dr, at_most_lem 255 u.metadata.channel f.channel, at_most_lem 255 u.metadata.odd f.odd) refl
  payload_back (ADownlink u) f =
      reads (ADownlink u) Downlink f (strange (ADownlink u)) refl
      ∙ rw (at_most_lem 255 h.hop_count f.hops, at_most_lem 4294967295 mic f.mic, bit_back has, at_most_lem 4294967295 u.relay_id f.relay, at_most_lem 65535 u.metadata.uplink_id f.id, at_most_lem 255 u.metadata.dr f.dr, at_most_lem 4294967295 u.metadata.frequency f.frequency, at_most_lem 255 u.metadata.tx_power f.power, at_most_lem 255 u.metadata.delay f.delay) refl
  payload_back (AnEvent u) f =
      reads (AnEvent u) Event f (strange (AnEvent u)) refl
      ∙ rw (at_most_lem 255 h.hop_count f.hops, at_most_lem 4294967295 mic f.mic, bit_back has, at_most_lem 4294967295 u.relay_id f.relay, at_most_lem 4294967295 u.timestamp f.time, event_body u.timestamp u.relay_id u.events) refl
  payload_back (ACommand u) f =
      reads (ACommand u) Command f (strange (ACommand u)) refl
      ∙ rw (at_most_lem 255 h.hop_count f.hops, at_most_lem 4294967295 mic f.mic, bit_back has, at_most_lem 4294967295 u.relay_id f.relay, at_most_lem 4294967295 u.timestamp f.time, command_body u.timestamp u.relay_id u.commands) refl

pub mesh_back : (p : MeshPacket) → Fits (mesh_numbers p) → mesh_from (mesh_numbers p) (mesh_rssi p) (mesh_snr p) ≡ Mesh p
mesh_back p f = payload_back p.mhdr p.has_mic p.mic p.payload f

no_lora : (p : MeshPacket) (q : Payload) → get_or (mesh_numbers (record { mhdr = p.mhdr; payload = q; has_mic = p.has_mic; mic = p.mic })) 0 0 ≡ 4 → ⊥
unfolding mesh_numbers
no_lora p (AnUplink u) e = omega arith
no_lora p (ADownlink u) e = omega arith
no_lora p (AnEvent u) e = omega arith
no_lora p (ACommand u) e = omega arith

pub numbers_back : (p : Packet) → Fits (numbers_in p) → packet_from (numbers_in p) (rssi_in p) (snr_in p) ≡ PacketIs p
unfolding numbers_in rssi_in snr_in
numbers_back (AMesh p) f =
    packet_mesh (mesh_numbers p) _ _ false (sym (not_wide (mesh_numbers p) f)) refl (no_lora p p.payload) ∙ ap of_mesh (mesh_back p f)
numbers_back (Lora r) f = packet_lora (numbers_in (Lora r)) _ _ false (sym (not_wide (numbers_in (Lora r)) f)) refl refl
