-- The frame after an accepted edit: of bytes, read as the packet that was signed without its odd bits, its body as the frame's without them.
-- Assumes nothing.
use Prim.Native.Nat.{ℕ, ◌-◌, ◌≤◌, ◌<◌}
use native.Mathlib.Omega.{arith}
use mathlib.Core.Bool.{Bool, true, false}
use mathlib.Core.Path.{◌≡◌, refl, sym, ap, subst, ◌∙◌}
use mathlib.Core.List.{List, ◌∷◌}
use lib.Dec.{eqb}
use lib.ListN.{length, get_or, take, drop, length-append}
use lib.Seq.{take_at, length-take-le, get_or-set_same, set-set, drop-set-lt}
use borrow.Author.Tests.{eq-eqb}
use Rattle.base.specs.Pick.{pick}
use Rattle.base.specs.Lists.{Bytes}
use Rattle.base.proofs.Bytes.{cons_lt, append_lt, take_lt, set_lt}
use Rattle.base.specs.Blocks.{Block, Agree}
use Rattle.base.specs.Answers.{bytes}
use Rattle.wire.specs.Number.{be_bytes}
use Rattle.wire.specs.Part.{part_of}
use Rattle.wire.specs.Run.{run_bytes}
use Rattle.wire.specs.declared.run.Run.{Run}
use Rattle.wire.proofs.Laws.Number.{be_length, be_small, be_lt}
use Rattle.fips197.specs.Aes.{aes}
use Rattle.fips197.proofs.Bytes.{aes_block}
use Rattle.cmac_chain.specs.Cmac.{tag}
use Rattle.cmac_chain.proofs.Laws.{tag_block}
use Rattle.fields.specs.Signal.{even_byte}
use Rattle.fields.specs.Header.{header_byte}
use Rattle.fields.specs.declared.header.HeaderByte.TheVariants.{Byte}
use Rattle.fields.specs.declared.header.PayloadType.{PayloadType}
use Rattle.fields.specs.declared.header.PayloadType.TheVariants.{Uplink, Downlink, Event, Command}
use Rattle.fields.proofs.Laws.Header.{header_back, header_byte_lt}
use Rattle.links.specs.Read.{uplink_at, downlink_at}
use Rattle.links.specs.declared.uplink.UplinkPayload.{UplinkPayload}
use Rattle.links.specs.declared.uplink.UplinkRead.{UplinkRead}
use Rattle.links.specs.declared.uplink.UplinkRead.TheVariants.{Payload as UplinkIs, Refused as NoUplink}
use Rattle.links.specs.declared.downlink.DownlinkPayload.{DownlinkPayload}
use Rattle.links.specs.declared.downlink.DownlinkRead.{DownlinkRead}
use Rattle.links.specs.declared.downlink.DownlinkRead.TheVariants.{Payload as DownlinkIs, Refused as NoDownlink}
use Rattle.links.proofs.Laws.{uplink_was, downlink_was}
use Rattle.contents.specs.Content.{content_of}
use Rattle.contents.specs.declared.content.Content.{Content}
use Rattle.contents.specs.declared.content.Content.TheVariants.{Empty, Sealed}
use Rattle.events.specs.Read.{event_at, command_at}
use Rattle.events.specs.declared.stamped.EventPayload.{EventPayload}
use Rattle.events.specs.declared.stamped.EventRead.{EventRead}
use Rattle.events.specs.declared.stamped.EventRead.TheVariants.{Payload as EventIs, Refused as NoEvent}
use Rattle.events.specs.declared.stamped.CommandPayload.{CommandPayload}
use Rattle.events.specs.declared.stamped.CommandRead.{CommandRead}
use Rattle.events.specs.declared.stamped.CommandRead.TheVariants.{Payload as CommandIs, Refused as NoCommand}
use Rattle.events.proofs.Laws.{event_was, command_was}
use Rattle.packets.specs.Read.{body_in, of_uplink, of_downlink, of_event, of_command, payload_at, mesh_of, even_mesh}
use Rattle.packets.specs.Write.{kinds_in, mesh_frame}
use Rattle.packets.proofs.Laws.{known_payload}
use Rattle.packets.specs.declared.mesh.Payload.{Payload}
use Rattle.packets.specs.declared.mesh.Payload.TheVariants.{Uplink as AnUplink, Downlink as ADownlink, Event as AnEvent, Command as ACommand}
use Rattle.packets.specs.declared.mesh.PayloadRead.TheVariants.{Payload as PayloadIs}
use Rattle.packets.specs.declared.mesh.MeshPacket.{MeshPacket}
use Rattle.packets.specs.declared.mesh.MeshRead.TheVariants.{Mesh}
use Rattle.round_trips.proofs.Which.{body_length}
use Rattle.round_trips.proofs.Trip.{read_as, frame_read}
use Rattle.round_trips.proofs.Again.{was_read}
use Rattle.round_trips.proofs.Same.{body_bytes, run_is, cleared_of}
use Rattle.round_trips.proofs.Even.{payload_even}
use Rattle.mic.specs.Mic.{mic_of, carrying_mic, set_mic, compared_by, validate_mic}
use Rattle.mic.specs.declared.Validated.TheVariants.{Valid}
use Rattle.hops.specs.Hops.{alone, carrying_count, written_of, signed_anew, hop_edit}
use Rattle.hops.proofs.Laws.{sealed_with, C, C-length, wire_is, signed_is, set_is, edit_is}
use Rattle.demand.specs.Demand.{Edit, edited}

-- ---- bodies

-- nothing, or the run r
pub data Placed (r : Run) : Content → Type 0 where
  nowhere : Placed r Empty
  there : Placed r (Sealed r)

-- the run behind the relay id
abbrev pub run_in : List ℕ → Run
run_in b = record { start = 9; len = length b - 8 }

placed : (b : List ℕ) → Placed (run_in b) (content_of 9 (length b - 8))
placed b = by (eqb (length b - 8) 0) where
  by : (t : Bool) → Placed (run_in b) (pick t Empty (Sealed (run_in b)))
  by true = nowhere
  by false = there

-- what a body b was read as: long enough, and of an event or a command where the payload lies
pub data Lies (b : List ℕ) : Payload → Type 0 where
  uplink : (u : UplinkPayload) → 8 ≤ length b → Lies b (AnUplink u)
  downlink : (u : DownlinkPayload) → 8 ≤ length b → Lies b (ADownlink u)
  event : (u : EventPayload) → 8 ≤ length b → Placed (run_in b) u.events → Lies b (AnEvent u)
  command : (u : CommandPayload) → 8 ≤ length b → Placed (run_in b) u.commands → Lies b (ACommand u)

module _ (b : List ℕ) (q : Payload) where
  of_up : (r : UplinkRead) → uplink_at 1 b ≡ r → of_uplink r ≡ PayloadIs q → Lies b q
  of_up (NoUplink k) e x = let z : ◌≡◌ {A = ℕ} 0 1 = cc in absurd (omega arith)
  of_up (UplinkIs u) e x =
      let y : AnUplink u ≡ q = cc in
      let w = uplink_was 1 b u e in
      subst (Lies b) y (uplink u (omega arith))

  of_down : (r : DownlinkRead) → downlink_at 1 b ≡ r → of_downlink r ≡ PayloadIs q → Lies b q
  of_down (NoDownlink k) e x = let z : ◌≡◌ {A = ℕ} 0 1 = cc in absurd (omega arith)
  of_down (DownlinkIs u) e x =
      let y : ADownlink u ≡ q = cc in
      let w = downlink_was 1 b u e in
      subst (Lies b) y (downlink u (omega arith))

  of_event_lem : (r : EventRead) → event_at 1 b ≡ r → of_event r ≡ PayloadIs q → Lies b q
  of_event_lem (NoEvent k) e x = let z : ◌≡◌ {A = ℕ} 0 1 = cc in absurd (omega arith)
  of_event_lem (EventIs u) e x =
      let y : AnEvent u ≡ q = cc in
      let w = event_was 1 b u e in
      subst (Lies b) y (event u w.least (subst (Placed (run_in b)) (sym w.body_is) (placed b)))

  of_command_lem : (r : CommandRead) → command_at 1 b ≡ r → of_command r ≡ PayloadIs q → Lies b q
  of_command_lem (NoCommand k) e x = let z : ◌≡◌ {A = ℕ} 0 1 = cc in absurd (omega arith)
  of_command_lem (CommandIs u) e x =
      let y : ACommand u ≡ q = cc in
      let w = command_was 1 b u e in
      subst (Lies b) y (command u w.least (subst (Placed (run_in b)) (sym w.body_is) (placed b)))

  pub lies : (t : PayloadType) → payload_at t b ≡ PayloadIs q → Lies b q
  unfolding payload_at
  lies Uplink e = of_up (uplink_at 1 b) refl e
  lies Downlink e = of_down (downlink_at 1 b) refl e
  lies Event e = of_event_lem (event_at 1 b) refl e
  lies Command e = of_command_lem (command_at 1 b) refl e

pub least_of_lem : (b : List ℕ) (q : Payload) → Lies b q → 8 ≤ length b
least_of_lem b _ (uplink u l) = l
least_of_lem b _ (downlink u l) = l
least_of_lem b _ (event u l e) = l
least_of_lem b _ (command u l e) = l

module _ (b : List ℕ) (least : 8 ≤ length b) where
  -- cleared twice is cleared once
  pub cleared_twice : (t : PayloadType) → cleared_of t (cleared_of t b) ≡ cleared_of t b
  cleared_twice Uplink =
      let v = even_byte (get_or b 3 0) in
      let e : even_byte v ≡ v = omega arith in
      rw (get_or-set_same b 3 v 0 (omega arith), e) (set-set b 3 v v)
  cleared_twice Downlink = refl
  cleared_twice Event = refl
  cleared_twice Command = refl

cleared_rest : (t : PayloadType) (b : List ℕ) → drop 8 (cleared_of t b) ≡ drop 8 b
cleared_rest Uplink b = drop-set-lt 8 b 3 (even_byte (get_or b 3 0)) (omega arith)
cleared_rest Downlink b = refl
cleared_rest Event b = refl
cleared_rest Command b = refl

-- ---- bytes

cleared_bytes : (t : PayloadType) (b : List ℕ) → Bytes b → Bytes (cleared_of t b)
cleared_bytes Uplink b h = set_lt b 3 (even_byte (get_or b 3 0)) (omega arith) h
cleared_bytes Downlink b h = h
cleared_bytes Event b h = h
cleared_bytes Command b h = h

-- a MIC under AES is four bytes
module _ (key : List ℕ) (block : Block key) where
  agree : Agree (aes key) (aes key)
  agree = record { same = λ b h. refl; block = λ b h. aes_block key block.small b h.small }

  pub mic_lt : (m : List ℕ) → Bytes m → mic_of (aes key) m < 4294967296
  unfolding mic_of
  mic_lt m h =
      let T = tag (aes key) m in
      let k : Block T = tag_block (aes key) (aes key) agree m h in
      let n : length T ≡ 16 = k.long in
      let l : length (take 4 T) ≡ 4 = length-take-le 4 T (omega arith) in
      rw l at (be_lt (take 4 T) (take_lt 4 T k.small))

-- ---- the frame after the edit

module _ (s : List ℕ) (p : MeshPacket) (small : Bytes s) (read : mesh_of s ≡ Mesh p) where
  abbrev t : PayloadType
  t = p.mhdr.payload_type

  pub found : Lies (body_in s) p.payload
  found = lies (body_in s) p.payload t (was_read s p read).body

  -- the body as it is written again
  abbrev pub new_body : List ℕ
  new_body = cleared_of t (body_in s)

  pub body_long : length new_body ≡ length s - 5
  body_long = C-length s p small read

  module _ (e : Edit) (v : ℕ) (byte : header_byte (carrying_count p e.count).mhdr ≡ Byte v) where
    abbrev E : List ℕ → List ℕ
    E = aes e.key

    abbrev pub new_mic : ℕ
    new_mic = mic_of E (v ∷ new_body)

    -- the frame, and the packet that it holds
    abbrev pub new_frame : List ℕ
    new_frame = sealed_with E v new_body

    abbrev pub new_packet : MeshPacket
    new_packet = carrying_mic (carrying_count p e.count) new_mic

    pub edit_gives : edited s e ≡ bytes new_frame
    edit_gives = edit_is s p small read v E e.count byte

    pub sign_gives : set_mic E (alone s) (carrying_count p e.count) ≡ Mesh new_packet
    sign_gives = set_is s p small read v (carrying_count p e.count).mhdr p.has_mic p.mic byte E

    pub write_gives : mesh_frame (alone s) new_packet ≡ bytes new_frame
    unfolding hop_edit
    write_gives = sym (ap (signed_anew E s e.count) read ∙ ap (written_of (alone s)) sign_gives) ∙ edit_gives

    message_bytes : Bytes (v ∷ new_body)
    message_bytes = cons_lt v new_body (header_byte_lt (carrying_count p e.count).mhdr v byte) (cleared_bytes t (body_in s) (body_bytes s small))

    pub new_bytes : Bytes new_frame
    new_bytes = append_lt (v ∷ new_body) (be_bytes 4 new_mic) message_bytes (be_small 4 new_mic)

    fits : length new_body ≤ 8187
    fits = let r = was_read s p read in let m = r.most in let l = body_long in omega arith

    pub read_gives : mesh_of new_frame ≡ Mesh (even_mesh new_packet)
    read_gives =
        let r = was_read s p read in
        let h = (carrying_count p e.count).mhdr in
        frame_read v new_mic new_body fits (mic_lt e.key e.block (v ∷ new_body) message_bytes) h (header_back h v byte)
        ∙ ap (read_as h new_mic) (payload_even (body_in s) p.payload t r.body)

    pub new_long : length new_frame ≡ length s
    new_long =
        let m : length (be_bytes 4 new_mic) ≡ 4 = be_length 4 new_mic in
        let n = body_long in
        let l = (was_read s p read).least in
        length-append (v ∷ new_body) (be_bytes 4 new_mic) ∙ omega arith

    new_body_lem : body_in new_frame ≡ new_body
    new_body_lem =
        let n = body_long in
        let m = new_long in
        let l : length new_body ≡ length new_frame - 4 - 1 = omega arith in
        take_at new_body (be_bytes 4 new_mic) (length new_frame - 4 - 1) l

    -- its body is written as it is
    pub new_again : C new_frame (even_mesh new_packet) new_bytes read_gives ≡ new_body
    new_again =
        ap (cleared_of t) new_body_lem
        ∙ cleared_twice (body_in s) (least_of_lem (body_in s) p.payload found) t

    pub new_valid : validate_mic E (alone new_frame) (even_mesh new_packet) ≡ Valid
    unfolding validate_mic
    new_valid =
        let q = even_mesh new_packet in
        let k : kinds_in (alone new_frame) q ≡ 0 = known_payload (alone new_frame) q.payload _ (wire_is new_frame q new_bytes read_gives) in
        simp (eq-eqb (kinds_in (alone new_frame) q) 0 k)
        (ap (compared_by E new_mic)
        (signed_is new_frame q new_bytes read_gives v (carrying_count p e.count).mhdr true new_mic byte ∙ ap (λ (x : List ℕ). bytes (v ∷ x)) new_again)
        ∙ simp (eq-eqb new_mic new_mic refl))

    -- behind the relay id nothing is changed
    pub new_run : run_bytes new_frame (run_in (body_in s)) ≡ run_bytes s (run_in (body_in s))
    new_run =
        let b = body_in s in
        let l : 5 ≤ length s = (was_read s p read).least in
        let m : 5 ≤ length new_frame = rw new_long l in
        let k : 8 ≤ length b = least_of_lem b p.payload found in
        let x : length (body_in new_frame) ≡ length b = ap length new_body_lem ∙ body_long ∙ sym (body_length s l) in
        ap (λ (i : ℕ). part_of new_frame 9 (i - 8)) (sym x)
        ∙ run_is new_frame m 8 (omega arith)
        ∙ ap (drop 8) new_body_lem
        ∙ cleared_rest t b
        ∙ sym (run_is s l 8 k)
