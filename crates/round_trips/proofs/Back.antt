-- What is written and accepted reads back as the same packet without odd bits, the payload by its bytes and not by its place. Said for a
-- header whose type is the payload's kind, and for LoRa frames of at least one byte whose first does not begin with 111. The bounds are those
-- of the fields' types. Assumes nothing.
use Prim.Native.Nat.{ℕ, ◌+◌, ◌-◌, ◌/◌, ◌≤◌, ◌<◌}
use native.Mathlib.Nat.{min-le_left}
use native.Mathlib.Omega.{arith}
use mathlib.Core.Bool.{Bool, true, false}
use mathlib.Core.Path.{◌≡◌, refl, sym, ap, ◌∙◌}
use mathlib.Core.List.{List, [], ◌∷◌, ◌++◌, append-nil, append_assoc}
use lib.Dec.{ltb, eqb}
use lib.ListN.{length, get_or, take, drop, length-append, length-take}
use lib.Seq.{drop_at, take-append_seam}
use borrow.Author.Tests.{le-ltb, ne_eqb, ltb-false}
use Rattle.base.proofs.Answers.{not_refused, unless_bytes}
use Rattle.base.specs.Pick.{pick}
use Rattle.base.specs.Answers.{bytes, refused}
use Rattle.wire.specs.Number.{be_bytes}
use Rattle.wire.specs.Part.{part_of}
use Rattle.fields.specs.Meta.{even}
use Rattle.fields.specs.declared.header.PayloadType.{PayloadType}
use Rattle.fields.specs.declared.header.PayloadType.TheVariants.{Uplink, Downlink, Event, Command}
use Rattle.fields.proofs.Laws.Header.{header_back}
use Rattle.wire.specs.Run.{run_refusal, run_bytes, run_at}
use Rattle.links.specs.Read.{uplink_at, downlink_at}
use Rattle.contents.specs.Content.{Lent, content_of, content_bytes}
use Rattle.events.specs.Read.{event_at, command_at}
use Rattle.links.specs.Write.{uplink_head, uplink_wire, downlink_head, downlink_wire}
use Rattle.events.specs.Write.{stamp, event_wire, command_wire}
use Rattle.wire.specs.declared.run.Run.{Run}
use Rattle.links.specs.declared.uplink.UplinkPayload.{UplinkPayload}
use Rattle.links.specs.declared.downlink.DownlinkPayload.{DownlinkPayload}
use Rattle.events.specs.declared.stamped.EventPayload.{EventPayload}
use Rattle.events.specs.declared.stamped.CommandPayload.{CommandPayload}
use Rattle.links.proofs.Laws.{run_bytes_lem, uplink_length, downlink_length, uplink_read_back, downlink_read_back}
use Rattle.events.proofs.Laws.{stamp_length, stamped_bytes, event_read_back, command_read_back}
use Rattle.packets.specs.Read.{of_uplink, of_downlink, of_event, of_command, payload_at, mesh_of, of_mesh, packet_of, carrying}
use Rattle.packets.specs.Write.{payload_wire, mesh_frame, lora_frame}
use Rattle.packets.specs.declared.mesh.Payload.{Payload}
use Rattle.packets.specs.declared.mesh.Payload.TheVariants.{Uplink as AnUplink, Downlink as ADownlink, Event as AnEvent, Command as ACommand}
use Rattle.packets.specs.declared.mesh.PayloadRead.TheVariants.{Payload as PayloadIs}
use Rattle.packets.specs.declared.mesh.MeshPacket.{MeshPacket}
use Rattle.packets.specs.declared.mesh.MeshRead.{MeshRead}
use Rattle.packets.specs.declared.mesh.MeshRead.TheVariants.{Mesh, Refused}
use Rattle.packets.specs.declared.any.Packet.TheVariants.{Lora}
use Rattle.packets.specs.declared.any.PacketRead.TheVariants.{Packet as PacketIs, Refused as NoPacket}
use Rattle.round_trips.proofs.Trip.{Made, made, read_as, frame_read}
use Rattle.round_trips.proofs.Same.{inside}

-- the part behind x is v
part_behind : (x v y : List ℕ) (n : ℕ) → length x ≡ n → part_of ((x ++ v) ++ y) n (length v) ≡ v
unfolding part_of
part_behind x v y n e =
    let l : length ((x ++ v) ++ y) ≡ length x + length v + length y = simp length-append in
    simp (le-ltb (length ((x ++ v) ++ y)) n (omega arith), le-ltb (length ((x ++ v) ++ y) - n) (length v) (omega arith))
    (ap (take (length v)) (ap (drop n) (append_assoc x v y) ∙ drop_at x (v ++ y) n e) ∙ take-append_seam v y)

module _ (s : Lent) (w : List ℕ) (p : MeshPacket) (written : mesh_frame s p ≡ bytes w) (small : p.mic < 4294967296) where
  k : Made s p w
  k = made s p w written

  -- by the body that was written
  read : (t : PayloadType) → p.mhdr.payload_type ≡ t → (q : Payload) → payload_at t k.body ≡ PayloadIs q → mesh_of w ≡ Mesh (carrying p q)
  read t et q e =
      ap mesh_of k.is
      ∙ frame_read k.byte p.mic k.body k.fits small p.mhdr (header_back p.mhdr k.byte k.header)
      ∙ ap (λ (x : PayloadType). read_as p.mhdr p.mic (payload_at x k.body)) et
      ∙ ap (read_as p.mhdr p.mic) e
      ∙ ap (λ (b : Bool). Mesh (record { mhdr = p.mhdr; payload = q; has_mic = b; mic = p.mic })) (sym k.signed)

  -- the run, where it lies now
  run_in_lem : (h v : List ℕ) (n : ℕ) → k.body ≡ h ++ v → length h + 1 ≡ n → run_bytes w (run_at n (length v)) ≡ v
  run_in_lem h v n e l =
      let i : length (k.byte ∷ h) ≡ n = omega arith in
      ap (λ (x : List ℕ). part_of x n (length v)) (k.is ∙ ap (λ (x : List ℕ). (k.byte ∷ x) ++ be_bytes 4 p.mic) e)
      ∙ part_behind (k.byte ∷ h) v (be_bytes 4 p.mic) n i

  fits : (h v : List ℕ) → k.body ≡ h ++ v → length h + length v ≤ 8187
  fits h v e = let f = k.fits in let l : length k.body ≡ length h + length v = ap length e ∙ length-append h v in omega arith

  pub uplink_back : (u : UplinkPayload) → p.payload ≡ AnUplink u → p.mhdr.payload_type ≡ Uplink
      → u.metadata.channel < 256 → u.relay_id < 4294967296
      → (mesh_of w ≡ Mesh (carrying p (AnUplink (record { metadata = even u.metadata; relay_id = u.relay_id; phy_payload = run_at 10 (length (run_bytes s.frame u.phy_payload)) }))))
      × (run_bytes w (run_at 10 (length (run_bytes s.frame u.phy_payload))) ≡ run_bytes s.frame u.phy_payload)
  unfolding payload_wire uplink_wire payload_at
  uplink_back u eu et hc hr =
      let v = run_bytes s.frame u.phy_payload in
      let g = run_bytes_lem s.frame u.phy_payload (uplink_head u) k.body (sym (ap (payload_wire s) eu) ∙ k.payload) in
      let h = g.1 in
      let l = uplink_length u h g.2 in
      let f = fits h v g.3 in (
        read Uplink et _ (ap (λ (x : List ℕ). of_uplink (uplink_at 1 x)) g.3 ∙ ap of_uplink (uplink_read_back u h v 1 g.2 hc hr (omega arith))),
        run_in_lem h v 10 g.3 (omega arith),
      )

  pub downlink_back : (u : DownlinkPayload) → p.payload ≡ ADownlink u → p.mhdr.payload_type ≡ Downlink → u.relay_id < 4294967296
      → (mesh_of w ≡ Mesh (carrying p (ADownlink (record { metadata = u.metadata; relay_id = u.relay_id; phy_payload = run_at 11 (length (run_bytes s.frame u.phy_payload)) }))))
      × (run_bytes w (run_at 11 (length (run_bytes s.frame u.phy_payload))) ≡ run_bytes s.frame u.phy_payload)
  unfolding payload_wire downlink_wire payload_at
  downlink_back u eu et hr =
      let v = run_bytes s.frame u.phy_payload in
      let g = run_bytes_lem s.frame u.phy_payload (downlink_head u) k.body (sym (ap (payload_wire s) eu) ∙ k.payload) in
      let h = g.1 in
      let l = downlink_length u h g.2 in
      let f = fits h v g.3 in (
        read Downlink et _ (ap (λ (x : List ℕ). of_downlink (downlink_at 1 x)) g.3 ∙ ap of_downlink (downlink_read_back u h v 1 g.2 hr (omega arith))),
        run_in_lem h v 11 g.3 (omega arith),
      )

  pub event_back : (u : EventPayload) → p.payload ≡ AnEvent u → p.mhdr.payload_type ≡ Event → u.timestamp < 4294967296 → u.relay_id < 4294967296
      → (mesh_of w ≡ Mesh (carrying p (AnEvent (record { timestamp = u.timestamp; relay_id = u.relay_id; events = content_of 9 (length (content_bytes true s u.events)) }))))
      × (run_bytes w (run_at 9 (length (content_bytes true s u.events))) ≡ content_bytes true s u.events)
  unfolding payload_wire event_wire payload_at
  event_back u eu et ht hr =
      let v = content_bytes true s u.events in
      let h = stamp u.timestamp u.relay_id in
      let e : k.body ≡ h ++ v = stamped_bytes true s _ k.body (sym (ap (payload_wire s) eu) ∙ k.payload) in
      let l = stamp_length u.timestamp u.relay_id in
      let f = fits h v e in (
        read Event et _ (ap (λ (x : List ℕ). of_event (event_at 1 x)) e ∙ ap of_event (event_read_back u.timestamp u.relay_id v 1 ht hr (omega arith))),
        run_in_lem h v 9 e (omega arith),
      )

  pub command_back : (u : CommandPayload) → p.payload ≡ ACommand u → p.mhdr.payload_type ≡ Command → u.timestamp < 4294967296 → u.relay_id < 4294967296
      → (mesh_of w ≡ Mesh (carrying p (ACommand (record { timestamp = u.timestamp; relay_id = u.relay_id; commands = content_of 9 (length (content_bytes false s u.commands)) }))))
      × (run_bytes w (run_at 9 (length (content_bytes false s u.commands))) ≡ content_bytes false s u.commands)
  unfolding payload_wire command_wire payload_at
  command_back u eu et ht hr =
      let v = content_bytes false s u.commands in
      let h = stamp u.timestamp u.relay_id in
      let e : k.body ≡ h ++ v = stamped_bytes false s _ k.body (sym (ap (payload_wire s) eu) ∙ k.payload) in
      let l = stamp_length u.timestamp u.relay_id in
      let f = fits h v e in (
        read Command et _ (ap (λ (x : List ℕ). of_command (command_at 1 x)) e ∙ ap of_command (command_read_back u.timestamp u.relay_id v 1 ht hr (omega arith))),
        run_in_lem h v 9 e (omega arith),
      )

-- ---- LoRa frames

part_most : (s : List ℕ) (start len : ℕ) → length (part_of s start len) ≤ len
unfolding part_of
part_most s start len = by (ltb (length s) start) (ltb (length s - start) len)
  where
    by : (t u : Bool) → length (pick t [] (pick u [] (take len (drop start s)))) ≤ len
    by true u = omega arith
    by false true = omega arith
    by false false = rw (length-take len (drop start s)) (min-le_left len (length (drop start s)))

short_enough : (w : List ℕ) (n : ℕ) (v : List ℕ) (t : Bool) → ltb 8192 n ≡ t → pick t (refused 5) (bytes v) ≡ bytes w → (n ≤ 8192) × (v ≡ w)
short_enough w n v true q e = let z : ◌≡◌ {A = ℕ} 0 1 = cc in absurd (omega arith)
short_enough w n v false q e = (ltb-false 8192 n q, cc)

pub lora_back : (s w : List ℕ) (r : Run) → lora_frame s r ≡ bytes w → 1 ≤ length w → (get_or w 0 0 / 32 ≡ 7 → ⊥)
    → (packet_of w ≡ PacketIs (Lora (run_at 0 (length w)))) × (w ≡ run_bytes s r)
unfolding lora_frame packet_of
lora_back s w r e l h =
    let a = unless_bytes (run_refusal (length s) r) _ w e in
    let c = short_enough w r.len (run_bytes s r) (ltb 8192 r.len) refl a.1 in
    let m = part_most s r.start r.len in
    let n : length w ≤ 8192 = let q : length (run_bytes s r) ≡ length w = ap length c.1 in omega (arith, c.0) in
    (simp (ne_eqb (length w) 0 (λ z. omega arith), le-ltb 8192 (length w) n, ne_eqb (get_or w 0 0 / 32) 7 h), sym c.1)

-- read, and written again: a run over the whole frame
whole_part : (s : List ℕ) → part_of s 0 (length s) ≡ s
whole_part s = ap (λ (z : List ℕ). part_of z 0 (length s)) (sym (append-nil s)) ∙ part_behind [] s [] 0 refl

whole_written : (s : List ℕ) → length s ≤ 8192 → lora_frame s (run_at 0 (length s)) ≡ bytes s
unfolding lora_frame
whole_written s m =
    sym (not_refused (run_refusal (length s) (run_at 0 (length s))) _ (inside (length s) 0 (length s) (omega arith)))
    ∙ simp (le-ltb 8192 (length s) m) (ap bytes (whole_part s))

no_packet : (n : ℕ) (r : Run) → NoPacket n ≡ PacketIs (Lora r) → ⊥
no_packet n r e = let z : ◌≡◌ {A = ℕ} 0 1 = cc in omega arith

no_lora : (m : MeshRead) (r : Run) → of_mesh m ≡ PacketIs (Lora r) → ⊥
no_lora (Mesh p) r e = let z : ◌≡◌ {A = ℕ} 0 1 = cc in omega arith
no_lora (Refused n) r e = no_packet n r e

pub lora_again : (s : List ℕ) (r : Run) → packet_of s ≡ PacketIs (Lora r) → lora_frame s r ≡ bytes s
unfolding packet_of
lora_again s r e = by (eqb (length s) 0) (ltb 8192 (length s)) (eqb (get_or s 0 0 / 32) 7) refl e
  where
    by : (a b c : Bool) → ltb 8192 (length s) ≡ b → pick a (NoPacket 1) (pick b (NoPacket 5) (pick c (of_mesh (mesh_of s)) (PacketIs (Lora (run_at 0 (length s)))))) ≡ PacketIs (Lora r)
        → lora_frame s r ≡ bytes s
    by true b c q x = absurd (no_packet 1 r x)
    by false true c q x = absurd (no_packet 5 r x)
    by false false true q x = absurd (no_lora (mesh_of s) r x)
    by false false false q x = let y : run_at 0 (length s) ≡ r = cc in rw (← y) (whole_written s (ltb-false _ _ q))
