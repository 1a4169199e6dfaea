-- An uplink's odd bits: a frame without them is read as the same packet without them, and a frame is written again as the same bytes exactly
-- if they were 0. Assumes nothing.
use Prim.Native.Nat.{ℕ, ◌+◌, ◌-◌, ◌/◌, ◌%◌, ◌≤◌, ◌<◌}
use native.Mathlib.Omega.{arith}
use mathlib.Core.Bool.{Bool}
use mathlib.Core.Path.{◌≡◌, refl, sym, ap, ap₂, ◌∙◌}
use mathlib.Core.List.{List, [], ◌∷◌, ◌++◌}
use lib.ListN.{length, get_or, drop}
use borrow.Author.Tests.{eq-eqb, ne_eqb}
use Rattle.base.specs.Lists.{Bytes}
use Rattle.base.specs.Answers.{Writing, bytes, unless_refused}
use Rattle.wire.specs.Number.{be_bytes}
use Rattle.wire.proofs.Laws.Number.{be_lt}
use Rattle.fields.specs.Signal.{snr_of, even_at}
use Rattle.fields.specs.Header.{code_of, header_byte}
use Rattle.fields.specs.declared.header.PayloadType.{PayloadType}
use Rattle.fields.specs.declared.header.PayloadType.TheVariants.{Uplink, Downlink, Event, Command}
use Rattle.fields.specs.declared.meta.UplinkMetadata.{UplinkMetadata}
use Rattle.fields.proofs.Laws.Bytes.{none, ◌▸◌, small}
use Rattle.fields.proofs.Laws.Signal.{odd_is, even_list}
use Rattle.fields.proofs.Laws.Meta.{same_bytes}
use Rattle.composed_items.specs.Composed.{Lists}
use Rattle.contents.specs.Content.{Lent, framed}
use Rattle.fields.specs.Meta.{up_wire}
use Rattle.links.specs.Read.{four_at, uplink_at, downlink_at}
use Rattle.links.specs.Write.{uplink_head, uplink_wire, with_mic}
use Rattle.links.specs.declared.uplink.UplinkPayload.{UplinkPayload}
use Rattle.links.specs.declared.uplink.UplinkRead.{UplinkRead}
use Rattle.links.specs.declared.uplink.UplinkRead.TheVariants.{Payload as UplinkIs, Refused as NoUplink}
use Rattle.links.specs.declared.downlink.DownlinkRead.{DownlinkRead}
use Rattle.links.specs.declared.downlink.DownlinkRead.TheVariants.{Payload as DownlinkIs, Refused as NoDownlink}
use Rattle.links.proofs.Laws.{uplink_was, uplink_even}
use Rattle.events.specs.Read.{event_at, command_at}
use Rattle.events.specs.declared.stamped.EventRead.{EventRead}
use Rattle.events.specs.declared.stamped.EventRead.TheVariants.{Payload as EventIs, Refused as NoEvent}
use Rattle.events.specs.declared.stamped.CommandRead.{CommandRead}
use Rattle.events.specs.declared.stamped.CommandRead.TheVariants.{Payload as CommandIs, Refused as NoCommand}
use Rattle.packets.specs.Read.{body_in, of_uplink, of_downlink, of_event, of_command, payload_at, mesh_of, odd_in, even_payload, even_mesh}
use Rattle.packets.specs.Write.{behind, payload_wire, payload_kinds, kinds_in, message_of, mesh_frame}
use Rattle.packets.specs.declared.mesh.Payload.{Payload}
use Rattle.packets.specs.declared.mesh.Payload.TheVariants.{Uplink as AnUplink, Downlink as ADownlink, Event as AnEvent, Command as ACommand}
use Rattle.packets.specs.declared.mesh.PayloadRead.TheVariants.{Payload as PayloadIs}
use Rattle.packets.specs.declared.mesh.MeshPacket.{MeshPacket}
use Rattle.packets.specs.declared.mesh.MeshRead.TheVariants.{Mesh}
use Rattle.round_trips.specs.Which.{cleared}
use Rattle.round_trips.proofs.Which.{body_length}
use Rattle.round_trips.proofs.Trip.{read_as, frame_read}
use Rattle.round_trips.proofs.Again.{was_read, last_four}
use Rattle.round_trips.proofs.Same.{kind_is, cleared_of, cleared_length, cleared_is, snr_byte_lem, again}

-- ---- a body

module _ (b : List ℕ) (q : Payload) where
  of_up : (r : UplinkRead) → uplink_at 1 b ≡ r → of_uplink r ≡ PayloadIs q → of_uplink (uplink_at 1 (even_at b 3)) ≡ PayloadIs (even_payload q)
  of_up (NoUplink k) e x = let z : ◌≡◌ {A = ℕ} 0 1 = cc in absurd (omega arith)
  of_up (UplinkIs u) e x = let y : AnUplink u ≡ q = cc in rw (← y) (ap of_uplink (uplink_even 1 b u e))

  of_down : (r : DownlinkRead) → of_downlink r ≡ PayloadIs q → of_downlink r ≡ PayloadIs (even_payload q)
  of_down (NoDownlink k) x = let z : ◌≡◌ {A = ℕ} 0 1 = cc in absurd (omega arith)
  of_down (DownlinkIs u) x = let y : ADownlink u ≡ q = cc in rw (← y) refl

  of_event_lem : (r : EventRead) → of_event r ≡ PayloadIs q → of_event r ≡ PayloadIs (even_payload q)
  of_event_lem (NoEvent k) x = let z : ◌≡◌ {A = ℕ} 0 1 = cc in absurd (omega arith)
  of_event_lem (EventIs u) x = let y : AnEvent u ≡ q = cc in rw (← y) refl

  of_command_lem : (r : CommandRead) → of_command r ≡ PayloadIs q → of_command r ≡ PayloadIs (even_payload q)
  of_command_lem (NoCommand k) x = let z : ◌≡◌ {A = ℕ} 0 1 = cc in absurd (omega arith)
  of_command_lem (CommandIs u) x = let y : ACommand u ≡ q = cc in rw (← y) refl

  pub payload_even : (t : PayloadType) → payload_at t b ≡ PayloadIs q → payload_at t (cleared_of t b) ≡ PayloadIs (even_payload q)
  unfolding payload_at
  payload_even Uplink e = of_up (uplink_at 1 b) refl e
  payload_even Downlink e = of_down (downlink_at 1 b) e
  payload_even Event e = of_event_lem (event_at 1 b) e
  payload_even Command e = of_command_lem (command_at 1 b) e

-- ---- a frame

module _ (s : List ℕ) (p : MeshPacket) (h : Bytes s) (read : mesh_of s ≡ Mesh p) where
  abbrev t : PayloadType
  t = p.mhdr.payload_type

  abbrev b : List ℕ
  b = body_in s

  code : code_of t ≡ get_or s 0 0 / 8 % 4
  code = kind_is (get_or s 0 0) p.mhdr (was_read s p read).header

  pub frame_even : mesh_of (cleared s) ≡ Mesh (even_mesh p)
  frame_even =
      let r = was_read s p read in
      let i = length s - 4 in
      let l = r.least in
      let m = r.most in
      let n = cleared_length t b ∙ body_length s l in
      let fits : length (cleared_of t b) ≤ 8187 = omega arith in
      let four : four_at s i < 4294967296 = be_lt (get_or s i 0 ∷ get_or s (i + 1) 0 ∷ get_or s (i + 2) 0 ∷ get_or s (i + 3) 0 ∷ []) (small (h i ▸ h (i + 1) ▸ h (i + 2) ▸ h (i + 3) ▸ none)) in
      let mic : p.mic < 4294967296 = rw r.mic four in
      let last : be_bytes 4 p.mic ≡ drop i s = ap (be_bytes 4) r.mic ∙ last_four s i h (omega arith) in
      ap mesh_of (sym (cleared_is s l t p.payload r.body code) ∙ ap (λ (x : List ℕ). (get_or s 0 0 ∷ cleared_of t b) ++ x) (sym last))
      ∙ frame_read (get_or s 0 0) p.mic (cleared_of t b) fits mic p.mhdr r.header
      ∙ ap (read_as p.mhdr p.mic) (payload_even b p.payload t r.body)
      ∙ ap (λ (x : Bool). Mesh (record { mhdr = p.mhdr; payload = even_payload p.payload; has_mic = x; mic = p.mic })) (sym r.signed)

  -- an uplink's are the top two of byte 4
  up_found : (u : UplinkPayload) (r : UplinkRead) → uplink_at 1 b ≡ r → of_uplink r ≡ PayloadIs (AnUplink u) → u.metadata.odd ≡ (snr_of (get_or s 4 0)).odd
  up_found u (NoUplink k) e x = let z : ◌≡◌ {A = ℕ} 0 1 = cc in absurd (omega arith)
  up_found u (UplinkIs v) e x =
      let y : v ≡ u = cc in
      let w = uplink_was 1 b v e in
      let l = (was_read s p read).least in
      let n = body_length s l in
      rw (← y) (ap (λ (m : UplinkMetadata). m.odd) w.meta_is ∙ ap (λ (i : ℕ). (snr_of i).odd) (sym (snr_byte_lem s l (omega arith))))

  found_by : (u : UplinkPayload) (k : PayloadType) → payload_at k b ≡ PayloadIs (AnUplink u) → u.metadata.odd ≡ (snr_of (get_or s 4 0)).odd
  unfolding payload_at
  found_by u Uplink e = up_found u (uplink_at 1 b) refl e
  found_by u Downlink e = absurd (no_down (downlink_at 1 b) e) where
    no_down : (r : DownlinkRead) → of_downlink r ≡ PayloadIs (AnUplink u) → ⊥
    no_down (NoDownlink k) x = let z : ◌≡◌ {A = ℕ} 0 1 = cc in omega arith
    no_down (DownlinkIs v) x = let z : ◌≡◌ {A = ℕ} 0 1 = cc in omega arith
  found_by u Event e = absurd (no_event (event_at 1 b) e) where
    no_event : (r : EventRead) → of_event r ≡ PayloadIs (AnUplink u) → ⊥
    no_event (NoEvent k) x = let z : ◌≡◌ {A = ℕ} 0 1 = cc in omega arith
    no_event (EventIs v) x = let z : ◌≡◌ {A = ℕ} 0 1 = cc in omega arith
  found_by u Command e = absurd (no_command (command_at 1 b) e) where
    no_command : (r : CommandRead) → of_command r ≡ PayloadIs (AnUplink u) → ⊥
    no_command (NoCommand k) x = let z : ◌≡◌ {A = ℕ} 0 1 = cc in omega arith
    no_command (CommandIs v) x = let z : ◌≡◌ {A = ℕ} 0 1 = cc in omega arith

  pub odd_found : (u : UplinkPayload) → p.payload ≡ AnUplink u → u.metadata.odd ≡ get_or s 4 0 / 64
  odd_found u e = found_by u t ((was_read s p read).body ∙ ap PayloadIs e) ∙ odd_is (get_or s 4 0)

  -- the frame is without odd bits exactly if the packet is
  abbrev Exactly : Payload → Type 0
  Exactly q = (odd_in q ≡ 0 → cleared s ≡ s) × (cleared s ≡ s → odd_in q ≡ 0)

  up_exactly : (q : Payload) (r : UplinkRead) → uplink_at 1 b ≡ r → of_uplink r ≡ PayloadIs q → code_of Uplink ≡ get_or s 0 0 / 8 % 4 → Exactly q
  unfolding cleared
  up_exactly q (NoUplink k) e x c = let z : ◌≡◌ {A = ℕ} 0 1 = cc in absurd (omega arith)
  up_exactly q (UplinkIs u) e x c =
      let y : AnUplink u ≡ q = cc in
      let w = uplink_was 1 b u e in
      let n = body_length s (was_read s p read).least in
      let o = up_found u (UplinkIs u) e refl in
      let a = even_list s 4 (omega arith) in
      simp (eq-eqb (get_or s 0 0 / 8 % 4) 0 (sym c)) (rw (← y) (λ z. a.0 (sym o ∙ z), λ z. o ∙ a.1 z))

  -- what no uplink is has none
  plain : (q : Payload) → odd_in q ≡ 0 → (get_or s 0 0 / 8 % 4 ≡ 0 → ⊥) → Exactly q
  unfolding cleared
  plain q o c = simp (ne_eqb (get_or s 0 0 / 8 % 4) 0 c) (λ z. refl, λ z. o)

  down_exactly : (q : Payload) (r : DownlinkRead) → of_downlink r ≡ PayloadIs q → odd_in q ≡ 0
  down_exactly q (NoDownlink k) x = let z : ◌≡◌ {A = ℕ} 0 1 = cc in absurd (omega arith)
  down_exactly q (DownlinkIs u) x = let y : ADownlink u ≡ q = cc in rw (← y) refl

  event_exactly : (q : Payload) (r : EventRead) → of_event r ≡ PayloadIs q → odd_in q ≡ 0
  event_exactly q (NoEvent k) x = let z : ◌≡◌ {A = ℕ} 0 1 = cc in absurd (omega arith)
  event_exactly q (EventIs u) x = let y : AnEvent u ≡ q = cc in rw (← y) refl

  command_exactly : (q : Payload) (r : CommandRead) → of_command r ≡ PayloadIs q → odd_in q ≡ 0
  command_exactly q (NoCommand k) x = let z : ◌≡◌ {A = ℕ} 0 1 = cc in absurd (omega arith)
  command_exactly q (CommandIs u) x = let y : ACommand u ≡ q = cc in rw (← y) refl

  exactly : (k : PayloadType) (q : Payload) → payload_at k b ≡ PayloadIs q → code_of k ≡ get_or s 0 0 / 8 % 4 → Exactly q
  unfolding payload_at
  exactly Uplink q e c = up_exactly q (uplink_at 1 b) refl e c
  exactly Downlink q e c = plain q (down_exactly q (downlink_at 1 b) e) (λ z. omega arith)
  exactly Event q e c = plain q (event_exactly q (event_at 1 b) e) (λ z. omega arith)
  exactly Command q e c = plain q (command_exactly q (command_at 1 b) e) (λ z. omega arith)

  pub same_exactly : (x : Lists) → (odd_in p.payload ≡ 0 → mesh_frame (framed s x) p ≡ bytes s) × (mesh_frame (framed s x) p ≡ bytes s → odd_in p.payload ≡ 0)
  same_exactly x =
      let a = again s x p h read in
      let e = exactly t p.payload (was_read s p read).body code in
      (λ z. a ∙ ap bytes (e.0 z), λ w. e.1 (same_bytes (cleared s) s (sym a ∙ w)))

-- ---- writing looks at them nowhere

even_by : (kinds spans : List (List ℕ)) (q : Payload) → payload_kinds kinds spans (even_payload q) ≡ payload_kinds kinds spans q
unfolding payload_kinds
even_by kinds spans (AnUplink u) = refl
even_by kinds spans (ADownlink u) = refl
even_by kinds spans (AnEvent u) = refl
even_by kinds spans (ACommand u) = refl

module _ (l : Lent) where
  pub even_kinds : (p : MeshPacket) → kinds_in l (even_mesh p) ≡ kinds_in l p
  even_kinds p = even_by _ _ p.payload

  pub even_body : (q : Payload) → payload_wire l (even_payload q) ≡ payload_wire l q
  unfolding payload_wire uplink_wire uplink_head up_wire
  even_body (AnUplink u) = refl
  even_body (ADownlink u) = refl
  even_body (AnEvent u) = refl
  even_body (ACommand u) = refl

  pub even_message : (p : MeshPacket) → message_of l (even_mesh p) ≡ message_of l p
  unfolding message_of
  even_message p =
      ap₂ (λ (k : ℕ) (w : Writing). unless_refused k (behind (header_byte p.mhdr) w)) (even_kinds p) (even_body p.payload)

  pub even_written : (p : MeshPacket) → mesh_frame l (even_mesh p) ≡ mesh_frame l p
  unfolding mesh_frame
  even_written p = ap (with_mic p.has_mic p.mic) (even_message p)
