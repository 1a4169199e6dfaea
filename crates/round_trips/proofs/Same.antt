-- What is read and written again is the same bytes, but for an uplink's odd bits. Assumes nothing.
use Prim.Native.Nat.{ℕ, ◌+◌, ◌-◌, ◌/◌, ◌%◌, ◌≤◌}
use native.Mathlib.Omega.{arith}
use mathlib.Core.Bool.{Bool, true, false}
use mathlib.Core.Path.{◌≡◌, refl, sym, ap, ap₂, ◌∙◌}
use mathlib.Core.List.{List, [], ◌∷◌, ◌++◌, append-nil}
use lib.Dec.{eqb}
use lib.ListN.{length, get_or, take, drop, set, take-append-drop, length-drop, drop_of_length-le, length-set, get_or-append}
use lib.Seq.{drop-cons, drop-drop, drop-append-le, take_at, get_or-take, length-take-le, set-append_left}
use borrow.Author.Tests.{le-ltb, eq-eqb, ne_eqb, eqb-true, eqb-false}
use Rattle.base.specs.Pick.{pick}
use Rattle.base.specs.Lists.{from, Bytes}
use Rattle.base.specs.Answers.{Writing, bytes}
use Rattle.base.proofs.Bytes.{take_lt, drop_lt}
use Rattle.base.proofs.Lists.{from_same, listed}
use Rattle.wire.specs.Part.{reach_number, part_of}
use Rattle.wire.proofs.Laws.Part.{inside as lies_inside}
use Rattle.fields.specs.Signal.{even_byte, even_at}
use Rattle.fields.specs.Header.{header_of, code_of}
use Rattle.fields.specs.declared.header.MHDR.{MHDR}
use Rattle.fields.specs.declared.header.HeaderRead.TheVariants.{Header}
use Rattle.fields.specs.declared.header.PayloadType.{PayloadType}
use Rattle.fields.specs.declared.header.PayloadType.TheVariants.{Uplink, Downlink, Event, Command}
use Rattle.fields.proofs.Laws.Header.{marked, not_marked}
use Rattle.base.proofs.Answers.{not_refused}
use Rattle.wire.specs.Run.{run_refusal, run_bytes}
use Rattle.links.specs.Read.{uplink_at, downlink_at}
use Rattle.events.specs.Read.{event_at, command_at}
use Rattle.links.specs.Write.{followed, with_run, uplink_head, uplink_wire, downlink_head, downlink_wire, headed_by}
use Rattle.events.specs.Write.{stamp, stamped_wire, event_wire, command_wire}
use Rattle.wire.specs.declared.run.Run.{Run}
use Rattle.composed_items.specs.Composed.{Lists}
use Rattle.contents.specs.Content.{content_refusal, content_bytes, content_wire, framed}
use Rattle.contents.specs.declared.content.Content.{Content}
use Rattle.contents.specs.declared.content.Content.TheVariants.{Empty, Sealed}
use Rattle.links.specs.declared.uplink.UplinkPayload.{UplinkPayload}
use Rattle.links.specs.declared.uplink.UplinkRead.{UplinkRead}
use Rattle.links.specs.declared.uplink.UplinkRead.TheVariants.{Payload as UplinkIs, Refused as NoUplink}
use Rattle.links.specs.declared.downlink.DownlinkPayload.{DownlinkPayload}
use Rattle.links.specs.declared.downlink.DownlinkRead.{DownlinkRead}
use Rattle.links.specs.declared.downlink.DownlinkRead.TheVariants.{Payload as DownlinkIs, Refused as NoDownlink}
use Rattle.events.specs.declared.stamped.EventPayload.{EventPayload}
use Rattle.events.specs.declared.stamped.EventRead.{EventRead}
use Rattle.events.specs.declared.stamped.EventRead.TheVariants.{Payload as EventIs, Refused as NoEvent}
use Rattle.events.specs.declared.stamped.CommandPayload.{CommandPayload}
use Rattle.events.specs.declared.stamped.CommandRead.{CommandRead}
use Rattle.events.specs.declared.stamped.CommandRead.TheVariants.{Payload as CommandIs, Refused as NoCommand}
use Rattle.links.proofs.Laws.{uplink_was, uplink_again, downlink_was, downlink_again}
use Rattle.events.proofs.Laws.{event_was, event_again, command_was, command_again}
use Rattle.packets.specs.Read.{body_in, of_uplink, of_downlink, of_event, of_command, payload_at, mesh_of}
use Rattle.packets.specs.Write.{payload_wire, mesh_frame}
use Rattle.round_trips.specs.Which.{cleared}
use Rattle.packets.specs.declared.mesh.Payload.{Payload}
use Rattle.packets.specs.declared.mesh.Payload.TheVariants.{Uplink as AnUplink, Downlink as ADownlink, Event as AnEvent, Command as ACommand}
use Rattle.packets.specs.declared.mesh.PayloadRead.TheVariants.{Payload as PayloadIs}
use Rattle.packets.specs.declared.mesh.MeshPacket.{MeshPacket}
use Rattle.packets.specs.declared.mesh.MeshRead.TheVariants.{Mesh}
use Rattle.round_trips.proofs.Which.{body_length}
use Rattle.round_trips.proofs.Again.{was_read, read_written}

pub body_bytes : (s : List ℕ) → Bytes s → Bytes (body_in s)
body_bytes s h = take_lt (length s - 4 - 1) (drop 1 s) (drop_lt 1 s h)

-- the type in a header byte
kind_by_lem : (x : ℕ) (h : MHDR) → header_of x ≡ Header h → (t : Bool) → eqb (x / 32) 7 ≡ t → code_of h.payload_type ≡ x / 8 % 4
kind_by_lem x h e true q =
    let m = marked x (eqb-true _ _ q) in
    let r : record { payload_type = m.kind; hop_count = x % 8 + 1 } ≡ h = cc m.reads in
    rw (← r) m.code
kind_by_lem x h e false q = let z : ◌≡◌ {A = ℕ} 0 1 = cc (not_marked x (eqb-false _ _ q)) in absurd (omega arith)

pub kind_is : (x : ℕ) (h : MHDR) → header_of x ≡ Header h → code_of h.payload_type ≡ x / 8 % 4
kind_is x h e = kind_by_lem x h e (eqb (x / 32) 7) refl

-- the front of a list by its index
front : (n : ℕ) (s : List ℕ) → n ≤ length s → from n 0 (λ i. get_or s i 0) ≡ take n s
front n s h =
    from_same n 0 (λ i. get_or s i 0) (λ i. get_or (take n s) i 0) (λ k q. sym (get_or-take n s k 0 (omega arith)))
    ∙ listed n (take n s) (length-take-le n s h)

-- a run that lies inside
pub inside : (n start len : ℕ) → start + len ≤ n → run_refusal n (record { start = start; len = len }) ≡ 0
unfolding run_refusal
inside n start len h = ap reach_number (lies_inside n start len h)

-- a body without an uplink's odd bits: byte 3 of it is the snr byte
abbrev pub cleared_of : PayloadType → List ℕ → List ℕ
cleared_of Uplink b = even_at b 3
cleared_of Downlink b = b
cleared_of Event b = b
cleared_of Command b = b

pub cleared_length : (t : PayloadType) (b : List ℕ) → length (cleared_of t b) ≡ length b
cleared_length Uplink b = length-set b 3 (even_byte (get_or b 3 0))
cleared_length Downlink b = refl
cleared_length Event b = refl
cleared_length Command b = refl

module _ (s : List ℕ) (least : 5 ≤ length s) where
  abbrev b : List ℕ
  b = body_in s

  abbrev L : ℕ
  L = length s - 4 - 1

  abbrev rest : List ℕ
  rest = drop L (drop 1 s)

  behind_first : drop 1 s ≡ b ++ rest
  behind_first = sym (take-append-drop L (drop 1 s))

  n : length b ≡ length s - 5
  n = body_length s least

  -- the frame is its header byte, its body, and its MIC
  whole : (get_or s 0 0 ∷ b) ++ drop (length s - 4) s ≡ s
  whole =
      let c : s ≡ get_or s 0 0 ∷ drop 1 s = drop-cons s 0 0 (omega arith) in
      let i : 1 + L ≡ length s - 4 = omega arith in
      let r : rest ≡ drop (length s - 4) s = drop-drop L 1 s ∙ ap (λ (k : ℕ). drop k s) i in
      ap (λ (x : List ℕ). (get_or s 0 0 ∷ b) ++ x) (sym r) ∙ ap (λ (x : List ℕ). get_or s 0 0 ∷ x) (sym behind_first) ∙ sym c

  pub snr_byte_lem : 4 ≤ length b → get_or s 4 0 ≡ get_or b 3 0
  snr_byte_lem l =
      let m = drop (length s - 4) s in
      ap (λ (y : List ℕ). get_or y 4 0) (sym whole) ∙ get_or-append (get_or s 0 0 ∷ b) m 0 4 (omega arith)

  -- the run behind a head of k bytes is the rest of the body
  pub run_is : (k : ℕ) → k ≤ length b → part_of s (k + 1) (length b - k) ≡ drop k b
  unfolding part_of
  run_is k h =
      let d : drop (k + 1) s ≡ drop k b ++ rest =
      ap (λ (i : ℕ). drop i s) (let q : k + 1 ≡ 1 + k = omega arith in q) ∙ sym (drop-drop k 1 s) ∙ ap (drop k) behind_first ∙ drop-append-le k b rest h in
      let m = n in
      simp (le-ltb (length s) (k + 1) (omega arith), le-ltb (length s - (k + 1)) (length b - k) (omega arith))
      (ap (take (length b - k)) d ∙ take_at (drop k b) rest (length b - k) (length-drop k b))

  -- a head, and that run
  with_run_lem : (k : ℕ) (r : Run) (f : Writing) (h : List ℕ) → k ≤ length b → r ≡ record { start = k + 1; len = length b - k } → f ≡ bytes h
      → with_run s r f ≡ bytes (h ++ drop k b)
  with_run_lem k r f h l e q =
      let m = n in
      let z : run_refusal (length s) r ≡ 0 = ap (run_refusal (length s)) e ∙ inside (length s) (k + 1) (length b - k) (omega arith) in
      sym (not_refused (run_refusal (length s) r) (followed f (run_bytes s r)) z)
      ∙ ap₂ followed q (ap (run_bytes s) e ∙ run_is k l)

  halves : (k : ℕ) → k ≤ length b → from k 0 (λ i. get_or b i 0) ++ drop k b ≡ b
  halves k h = ap (λ (x : List ℕ). x ++ drop k b) (front k b h) ∙ take-append-drop k b

  module _ (bs : Bytes b) (x : Lists) where
    up : (u : UplinkPayload) → uplink_at 1 b ≡ UplinkIs u → uplink_wire s u ≡ bytes (even_at b 3)
    unfolding uplink_wire
    up u e =
        let w = uplink_was 1 b u e in
        let l = w.least in
        let t : length (take 9 b) ≡ 9 = length-take-le 9 b l in
        with_run_lem 9 u.phy_payload (uplink_head u) _ l w.run_is (uplink_again 1 b u bs e)
        ∙ ap (λ (x : List ℕ). bytes (set x 3 (even_byte (get_or b 3 0)) ++ drop 9 b)) (front 9 b l)
        ∙ ap bytes (sym (set-append_left (take 9 b) (drop 9 b) 3 (even_byte (get_or b 3 0)) (omega arith)) ∙ ap (λ (x : List ℕ). set x 3 (even_byte (get_or b 3 0))) (take-append-drop 9 b))

    down : (u : DownlinkPayload) → downlink_at 1 b ≡ DownlinkIs u → downlink_wire s u ≡ bytes b
    unfolding downlink_wire
    down u e =
        let w = downlink_was 1 b u e in
        with_run_lem 10 u.phy_payload (downlink_head u) _ w.least w.run_is (downlink_again 1 b u bs e) ∙ ap bytes (halves 10 w.least)

    -- an event's or a command's: nothing behind the relay id, or one run
    sealed_by : (ev : Bool) (time relay : ℕ) (t : Bool) → 8 ≤ length b → eqb (length b - 8) 0 ≡ t → stamp time relay ≡ from 8 0 (λ i. get_or b i 0)
        → headed_by (stamp time relay) (content_wire ev (framed s x) (pick t Empty (Sealed (record { start = 9; len = length b - 8 })))) ≡ bytes b
    unfolding content_wire content_refusal content_bytes
    sealed_by ev time relay true l e q =
        let z : length b ≤ 8 = let y : length b - 8 ≡ 0 = eqb-true _ _ e in omega arith in
        let d : drop 8 b ≡ [] = drop_of_length-le b z in
        ap bytes (append-nil (stamp time relay) ∙ q ∙ sym (append-nil (from 8 0 (λ i. get_or b i 0))) ∙ ap (λ (v : List ℕ). from 8 0 (λ i. get_or b i 0) ++ v) (sym d) ∙ halves 8 l)
    sealed_by ev time relay false l e q =
        let m = n in
        let r : Run = record { start = 9; len = length b - 8 } in
        ap (headed_by (stamp time relay)) (sym (not_refused (run_refusal (length s) r) (bytes (run_bytes s r)) (inside (length s) 9 (length b - 8) (omega arith))))
        ∙ ap (λ (v : List ℕ). bytes (stamp time relay ++ v)) (run_is 8 l)
        ∙ ap bytes (ap (λ (v : List ℕ). v ++ drop 8 b) q ∙ halves 8 l)

    event : (u : EventPayload) → event_at 1 b ≡ EventIs u → event_wire (framed s x) u ≡ bytes b
    unfolding event_wire stamped_wire
    event u e =
        let w = event_was 1 b u e in
        ap (λ (y : Content). headed_by (stamp u.timestamp u.relay_id) (content_wire true (framed s x) y)) w.body_is
        ∙ sealed_by true u.timestamp u.relay_id (eqb (length b - 8) 0) w.least refl (event_again 1 b u bs e)

    command : (u : CommandPayload) → command_at 1 b ≡ CommandIs u → command_wire (framed s x) u ≡ bytes b
    unfolding command_wire stamped_wire
    command u e =
        let w = command_was 1 b u e in
        ap (λ (y : Content). headed_by (stamp u.timestamp u.relay_id) (content_wire false (framed s x) y)) w.body_is
        ∙ sealed_by false u.timestamp u.relay_id (eqb (length b - 8) 0) w.least refl (command_again 1 b u bs e)

    of_up : (r : UplinkRead) (q : Payload) → uplink_at 1 b ≡ r → of_uplink r ≡ PayloadIs q → payload_wire (framed s x) q ≡ bytes (cleared_of Uplink b)
    unfolding payload_wire
    of_up (NoUplink k) q e y2 = let z : ◌≡◌ {A = ℕ} 0 1 = cc in absurd (omega arith)
    of_up (UplinkIs u) q e y2 = let y : AnUplink u ≡ q = cc in rw (← y) (up u e)

    of_down : (r : DownlinkRead) (q : Payload) → downlink_at 1 b ≡ r → of_downlink r ≡ PayloadIs q → payload_wire (framed s x) q ≡ bytes b
    unfolding payload_wire
    of_down (NoDownlink k) q e y2 = let z : ◌≡◌ {A = ℕ} 0 1 = cc in absurd (omega arith)
    of_down (DownlinkIs u) q e y2 = let y : ADownlink u ≡ q = cc in rw (← y) (down u e)

    of_event_lem : (r : EventRead) (q : Payload) → event_at 1 b ≡ r → of_event r ≡ PayloadIs q → payload_wire (framed s x) q ≡ bytes b
    unfolding payload_wire
    of_event_lem (NoEvent k) q e y2 = let z : ◌≡◌ {A = ℕ} 0 1 = cc in absurd (omega arith)
    of_event_lem (EventIs u) q e y2 = let y : AnEvent u ≡ q = cc in rw (← y) (event u e)

    of_command_lem : (r : CommandRead) (q : Payload) → command_at 1 b ≡ r → of_command r ≡ PayloadIs q → payload_wire (framed s x) q ≡ bytes b
    unfolding payload_wire
    of_command_lem (NoCommand k) q e y2 = let z : ◌≡◌ {A = ℕ} 0 1 = cc in absurd (omega arith)
    of_command_lem (CommandIs u) q e y2 = let y : ACommand u ≡ q = cc in rw (← y) (command u e)

    pub body_again : (t : PayloadType) (q : Payload) → payload_at t b ≡ PayloadIs q → payload_wire (framed s x) q ≡ bytes (cleared_of t b)
    unfolding payload_at
    body_again Uplink q e = of_up (uplink_at 1 b) q refl e
    body_again Downlink q e = of_down (downlink_at 1 b) q refl e
    body_again Event q e = of_event_lem (event_at 1 b) q refl e
    body_again Command q e = of_command_lem (command_at 1 b) q refl e

  least_up : (r : UplinkRead) (q : Payload) → uplink_at 1 b ≡ r → of_uplink r ≡ PayloadIs q → 4 ≤ length b
  least_up (NoUplink k) q e y2 = let z : ◌≡◌ {A = ℕ} 0 1 = cc in absurd (omega arith)
  least_up (UplinkIs u) q e y2 = let w = uplink_was 1 b u e in omega arith

  -- with header byte and MIC, that is the whole frame without the odd bits
  pub cleared_is : (t : PayloadType) (q : Payload) → payload_at t b ≡ PayloadIs q → code_of t ≡ get_or s 0 0 / 8 % 4 → (get_or s 0 0 ∷ cleared_of t b) ++ drop (length s - 4) s ≡ cleared s
  unfolding cleared payload_at
  cleared_is Uplink q p e =
      let l = least_up (uplink_at 1 b) q refl p in
      let m = drop (length s - 4) s in
      let x = even_byte (get_or b 3 0) in
      simp (eq-eqb (get_or s 0 0 / 8 % 4) 0 (sym e), snr_byte_lem l)
      (sym (set-append_left (get_or s 0 0 ∷ b) m 4 x (omega arith)) ∙ ap (λ (y : List ℕ). set y 4 x) whole)
  cleared_is Downlink q p e = simp (ne_eqb (get_or s 0 0 / 8 % 4) 0 (λ z. omega arith)) whole
  cleared_is Event q p e = simp (ne_eqb (get_or s 0 0 / 8 % 4) 0 (λ z. omega arith)) whole
  cleared_is Command q p e = simp (ne_eqb (get_or s 0 0 / 8 % 4) 0 (λ z. omega arith)) whole

-- the same bytes, but for an uplink's odd bits, whatever else is lent
pub again : (s : List ℕ) (x : Lists) (p : MeshPacket) → Bytes s → mesh_of s ≡ Mesh p → mesh_frame (framed s x) p ≡ bytes (cleared s)
again s x p h e =
    let r = was_read s p e in
    let t = p.mhdr.payload_type in
    let bs : Bytes (body_in s) = body_bytes s h in
    let k = kind_is (get_or s 0 0) p.mhdr r.header in
    let n = cleared_length t (body_in s) ∙ body_length s r.least in
    read_written s x p (cleared_of t (body_in s)) h e (body_again s r.least bs x t p.payload r.body) n
    ∙ ap bytes (cleared_is s r.least t p.payload r.body k)
