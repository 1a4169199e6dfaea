-- Between the least and the largest value of its kind lies every field that is read, of a frame, of a body alone and of a path entry; and both
-- values are read. Assumes nothing.
use Prim.Native.Nat.{ℕ, zero, suc, ◌+◌, ◌-◌, ◌*◌, ◌<◌}
use native.Mathlib.Omega.{arith}
use mathlib.Core.Bool.{Bool, true, false}
use mathlib.Core.Path.{◌≡◌, refl, ap}
use mathlib.Core.List.{List, [], ◌∷◌}
use lib.Dec.{eqb, lit<}
use lib.IntN.{pos}
use lib.ListN.{length, get_or, drop, replicate}
use borrow.Author.Tests.{ltb-false}
use Rattle.base.specs.Pick.{pick}
use Rattle.base.specs.Lists.{Bytes}
use Rattle.base.specs.Answers.{value}
use Rattle.base.proofs.Bytes.{take_lt, drop_lt}
use Rattle.wire.specs.Number.{be_of, be_more}
use Rattle.wire.proofs.Laws.Number.{be_lt}
use Rattle.fields.specs.Limits.{hops_least, hops_most}
use Rattle.fields.specs.Header.{type_read, code_of, type_least, type_most, header_of}
use Rattle.fields.specs.Signal.{rssi_of, snr_of}
use Rattle.fields.specs.Freq.{hertz_of}
use Rattle.fields.specs.Path.{path_of}
use Rattle.fields.specs.declared.header.MHDR.{MHDR}
use Rattle.fields.specs.declared.header.HeaderRead.TheVariants.{Header}
use Rattle.fields.specs.declared.header.PayloadType.{PayloadType}
use Rattle.fields.specs.declared.header.PayloadType.TheVariants as type
use Rattle.fields.specs.declared.path.RelayPath.{RelayPath}
use Rattle.fields.proofs.Laws.Bytes.{Small, none, ◌▸◌, small}
use Rattle.fields.proofs.Laws.Header.{accepted, header_again}
use Rattle.fields.proofs.Laws.Limits.{Within, read_within, UplinkId, Dr, Rssi, Snr, Odd, Channel, RelayId, Hertz, TxPower, Delay}
use Rattle.heartbeats.specs.Heartbeat.{six_at, entry_at, entry_refusal, entry_read, path_says}
use Rattle.heartbeats.specs.declared.heartbeat.PathRead.TheVariants.{Entry, Refused as NoEntry}
use Rattle.links.specs.Read.{four_at, uplink_at, downlink_at, uplink_says, downlink_says}
use Rattle.links.specs.declared.uplink.UplinkPayload.{UplinkPayload}
use Rattle.links.specs.declared.uplink.UplinkRead.{UplinkRead}
use Rattle.links.specs.declared.uplink.UplinkRead.TheVariants as uplink
use Rattle.links.specs.declared.downlink.DownlinkPayload.{DownlinkPayload}
use Rattle.links.specs.declared.downlink.DownlinkRead.{DownlinkRead}
use Rattle.links.specs.declared.downlink.DownlinkRead.TheVariants as downlink
use Rattle.links.proofs.Laws.{uplink_was, downlink_was}
use Rattle.events.specs.Read.{stamped_at, event_at, command_at, event_says, command_says}
use Rattle.events.specs.declared.stamped.EventPayload.{EventPayload}
use Rattle.events.specs.declared.stamped.EventRead.{EventRead}
use Rattle.events.specs.declared.stamped.EventRead.TheVariants as event
use Rattle.events.specs.declared.stamped.CommandPayload.{CommandPayload}
use Rattle.events.specs.declared.stamped.CommandRead.{CommandRead}
use Rattle.events.specs.declared.stamped.CommandRead.TheVariants as command
use Rattle.events.proofs.Laws.{event_was, command_was}
use Rattle.packets.specs.Read.{body_in, of_uplink, of_downlink, of_event, of_command, payload_at, mesh_of, mesh_says}
use Rattle.packets.specs.declared.mesh.Payload.{Payload}
use Rattle.packets.specs.declared.mesh.Payload.TheVariants.{Uplink, Downlink, Event, Command}
use Rattle.packets.specs.declared.mesh.PayloadRead.TheVariants.{Payload as PayloadIs}
use Rattle.packets.specs.declared.mesh.MeshPacket.{MeshPacket}
use Rattle.round_trips.proofs.Again.{was_read}
use Rattle.promises.specs.Limits.{Between, UplinkWithin, DownlinkWithin, StampWithin, PathWithin, PayloadWithin, PacketWithin, least_bytes, most_bytes, least_packet, most_packet, least_entry, most_entry}
use Rattle.promises.proofs.Said.{uplink_said, downlink_said, event_said, command_said, mesh_said}

never : ◌≡◌ {A = ℕ} 0 1 → ⊥
never e = omega arith

counted : (a b n : ℕ) → Within (pos a) (pos b) (pos n) → Between a b n
counted a b n w = (ltb-false n a w.0, ltb-false b n w.1)

-- ---- bodies alone

module _ (b : List ℕ) (h : Bytes b) where
  four : (i : ℕ) → Between 0 4294967295 (four_at b i)
  four i =
      let l = be_lt (get_or b i 0 ∷ get_or b (i + 1) 0 ∷ get_or b (i + 2) 0 ∷ get_or b (i + 3) 0 ∷ []) (small (h i ▸ h (i + 1) ▸ h (i + 2) ▸ h (i + 3) ▸ none)) in
      (omega arith, omega arith)

  -- the bytes of an uplink's and of a downlink's metadata
  abbrev five : List ℕ
  five = get_or b 0 0 ∷ get_or b 1 0 ∷ get_or b 2 0 ∷ get_or b 3 0 ∷ get_or b 4 0 ∷ []

  abbrev six : List ℕ
  six = get_or b 0 0 ∷ get_or b 1 0 ∷ get_or b 2 0 ∷ get_or b 3 0 ∷ get_or b 4 0 ∷ get_or b 5 0 ∷ []

  module _ (at : ℕ) where
    pub uplink_within : (u : UplinkPayload) → uplink_says (uplink_at at b) ≡ value u → UplinkWithin u
    uplink_within u e =
        let w = uplink_was at b u (uplink_said (uplink_at at b) u e) in
        let m : Bytes five = small (h 0 ▸ h 1 ▸ h 2 ▸ h 3 ▸ h 4 ▸ none) in
        record {
          id = rw w.meta_is (counted _ _ _ (read_within five m UplinkId));
          rate = rw w.meta_is (counted _ _ _ (read_within five m Dr));
          strength = rw w.meta_is (read_within five m Rssi);
          ratio = rw w.meta_is (read_within five m Snr);
          odd = rw w.meta_is (counted _ _ _ (read_within five m Odd));
          number = rw w.meta_is (counted _ _ _ (read_within five m Channel));
          relay = rw w.relay_is (four 5);
        }

    pub downlink_within : (u : DownlinkPayload) → downlink_says (downlink_at at b) ≡ value u → DownlinkWithin u
    downlink_within u e =
        let w = downlink_was at b u (downlink_said (downlink_at at b) u e) in
        let m : Bytes six = small (h 0 ▸ h 1 ▸ h 2 ▸ h 3 ▸ h 4 ▸ h 5 ▸ none) in
        record {
          id = rw w.meta_is (counted _ _ _ (read_within six m UplinkId));
          rate = rw w.meta_is (counted _ _ _ (read_within six m Dr));
          hertz = rw w.meta_is (counted _ _ _ (read_within six m Hertz));
          power = rw w.meta_is (counted _ _ _ (read_within six m TxPower));
          wait = rw w.meta_is (counted _ _ _ (read_within six m Delay));
          relay = rw w.relay_is (four 6);
        }

    pub event_within : (u : EventPayload) → event_says (event_at at b) ≡ value u → StampWithin u.timestamp u.relay_id
    event_within u e =
        let w = event_was at b u (event_said (event_at at b) u e) in record { stamp = rw w.time_is (four 0); by = rw w.relay_is (four 4) }

    pub command_within : (u : CommandPayload) → command_says (command_at at b) ≡ value u → StampWithin u.timestamp u.relay_id
    command_within u e =
        let w = command_was at b u (command_said (command_at at b) u e) in record { stamp = rw w.time_is (four 0); by = rw w.relay_is (four 4) }

  -- ---- frames

  payload_within : (t : PayloadType) (q : Payload) → payload_at t b ≡ PayloadIs q → PayloadWithin q
  unfolding payload_at
  payload_within type.Uplink q e = by (uplink_at 1 b) refl e
    where
      by : (x : UplinkRead) → uplink_at 1 b ≡ x → of_uplink x ≡ PayloadIs q → PayloadWithin q
      by (uplink.Payload u) i y = let k : Uplink u ≡ q = cc in rw (← k) (uplink_within 1 u (ap uplink_says i))
      by (uplink.Refused n) i y = absurd (never (cc))
  payload_within type.Downlink q e = by (downlink_at 1 b) refl e
    where
      by : (x : DownlinkRead) → downlink_at 1 b ≡ x → of_downlink x ≡ PayloadIs q → PayloadWithin q
      by (downlink.Payload u) i y = let k : Downlink u ≡ q = cc in rw (← k) (downlink_within 1 u (ap downlink_says i))
      by (downlink.Refused n) i y = absurd (never (cc))
  payload_within type.Event q e = by (event_at 1 b) refl e
    where
      by : (x : EventRead) → event_at 1 b ≡ x → of_event x ≡ PayloadIs q → PayloadWithin q
      by (event.Payload u) i y = let k : Event u ≡ q = cc in rw (← k) (event_within 1 u (ap event_says i))
      by (event.Refused n) i y = absurd (never (cc))
  payload_within type.Command q e = by (command_at 1 b) refl e
    where
      by : (x : CommandRead) → command_at 1 b ≡ x → of_command x ≡ PayloadIs q → PayloadWithin q
      by (command.Payload u) i y = let k : Command u ≡ q = cc in rw (← k) (command_within 1 u (ap command_says i))
      by (command.Refused n) i y = absurd (never (cc))

code_within : (t : PayloadType) → Between type_least type_most (code_of t)
code_within type.Uplink = (omega arith, omega arith)
code_within type.Downlink = (omega arith, omega arith)
code_within type.Event = (omega arith, omega arith)
code_within type.Command = (omega arith, omega arith)

hops_within : (s : List ℕ) → Bytes s → (m : MHDR) → header_of (get_or s 0 0) ≡ Header m → Between hops_least hops_most m.hop_count
hops_within s h m e = let a = accepted m (get_or s 0 0) (header_again (get_or s 0 0) (h 0) m e) in (a.least, a.most)

pub fields_within : (s : List ℕ) → Bytes s → (p : MeshPacket) → mesh_says (mesh_of s) ≡ value p → PacketWithin p
fields_within s h p e =
    let r = was_read s p (mesh_said (mesh_of s) p e) in
    let b : Bytes (body_in s) = take_lt (length s - 4 - 1) (drop 1 s) (drop_lt 1 s h) in
    let m : Between 0 4294967295 p.mic = rw r.mic (four s h (length s - 4)) in
    record {
      code = code_within p.mhdr.payload_type;
      hops = hops_within s h p.mhdr r.header;
      fields = payload_within (body_in s) b p.mhdr.payload_type p.payload r.body;
      tag = m;
    }

-- ---- path entries

pub entry_within : (v : List ℕ) → Bytes v → (i : ℕ) (r : RelayPath) → path_says (entry_read v i) ≡ value r → PathWithin r
unfolding entry_read entry_at
entry_within v h i r e = by (eqb (entry_refusal (length v) i) 0) e
  where
    by : (t : Bool) → path_says (pick t (Entry (path_of (six_at v (i * 6)))) (NoEntry (entry_refusal (length v) i))) ≡ value r → PathWithin r
    by false z = absurd (never (cc))
    by true z =
        let y : path_of (six_at v (i * 6)) ≡ r = cc in
        let k = i * 6 in
        let f : Bytes (six_at v k) = small (h k ▸ h (k + 1) ▸ h (k + 2) ▸ h (k + 3) ▸ h (k + 4) ▸ h (k + 5) ▸ none) in
        let g : Bytes (0 ∷ 0 ∷ get_or v (k + 4) 0 ∷ get_or v (k + 5) 0 ∷ []) = small (lit< tt ▸ lit< tt ▸ h (k + 4) ▸ h (k + 5) ▸ none) in
        rw (← y)
        (record {
          relay = counted _ _ _ (read_within (six_at v k) f RelayId);
          strength = read_within (0 ∷ 0 ∷ get_or v (k + 4) 0 ∷ get_or v (k + 5) 0 ∷ []) g Rssi;
          ratio = read_within (0 ∷ 0 ∷ get_or v (k + 4) 0 ∷ get_or v (k + 5) 0 ∷ []) g Snr;
          odd = counted _ _ _ (read_within (0 ∷ 0 ∷ get_or v (k + 4) 0 ∷ get_or v (k + 5) 0 ∷ []) g Odd);
        })

-- ---- both ends

alike : (n v : ℕ) → v < 256 → Small (replicate n v)
alike zero v h = none
alike (suc n) v h = h ▸ alike n v h

ends : (t : PayloadType) → Small (least_bytes t) × Small (most_bytes t)
ends type.Uplink =
    (lit< tt ▸ lit< tt ▸ lit< tt ▸ lit< tt ▸ lit< tt ▸ alike 9 0 (lit< tt), lit< tt ▸ lit< tt ▸ lit< tt ▸ lit< tt ▸ lit< tt ▸ alike 9 255 (lit< tt))
ends type.Downlink = (lit< tt ▸ alike 14 0 (lit< tt), lit< tt ▸ alike 14 255 (lit< tt))
ends type.Event = (lit< tt ▸ alike 12 0 (lit< tt), lit< tt ▸ alike 12 255 (lit< tt))
ends type.Command = (lit< tt ▸ alike 12 0 (lit< tt), lit< tt ▸ alike 12 255 (lit< tt))

pub both_ends_are_bytes : (t : PayloadType) → Bytes (least_bytes t) × Bytes (most_bytes t)
both_ends_are_bytes t = (small (ends t).0, small (ends t).1)

-- of each type a frame of all the least values and one of all the largest are read
pub both_ends_read : (t : PayloadType) → (mesh_says (mesh_of (least_bytes t)) ≡ value (least_packet t)) × (mesh_says (mesh_of (most_bytes t)) ≡ value (most_packet t))
unfolding mesh_of header_of type_read payload_at uplink_at downlink_at stamped_at event_at command_at rssi_of snr_of hertz_of be_of be_more
both_ends_read type.Uplink = (refl, refl)
both_ends_read type.Downlink = (refl, refl)
both_ends_read type.Event = (refl, refl)
both_ends_read type.Command = (refl, refl)

pub both_ends_of_an_entry_read : (path_says (entry_read (0 ∷ 0 ∷ 0 ∷ 0 ∷ 255 ∷ 32 ∷ []) 0) ≡ value least_entry) × (path_says (entry_read (255 ∷ 255 ∷ 255 ∷ 255 ∷ 0 ∷ 223 ∷ []) 0) ≡ value most_entry)
unfolding entry_read entry_refusal entry_at rssi_of snr_of be_of be_more
both_ends_of_an_entry_read = (refl, refl)
