-- The dump: what the line of a frame says, and what each line of hex is refused with, over the definitions that `dump`'s contracts are
-- equations with. Assumes nothing.
use Prim.Native.Nat.{ℕ, zero, suc, ◌+◌, ◌/◌, ◌%◌, ◌≤◌, ◌<◌}
use native.Mathlib.Omega.{arith}
use mathlib.Core.Bool.{Bool, true, false}
use mathlib.Core.Logic.{◌⊎◌, inl, inr}
use mathlib.Core.Path.{◌≡◌, refl, sym, ap, ◌∙◌}
use mathlib.Core.List.{List, [], ◌∷◌, ◌++◌, map}
use lib.Dec.{ltb, eqb}
use lib.ListN.{length, get_or}
use borrow.Author.Tests.{le-ltb, lt-ltb, ltb-true, ltb-false, eq-eqb, ne_eqb, eqb-true}
use Rattle.base.specs.Pick.{pick}
use Rattle.base.specs.Lists.{Bytes}
use Rattle.base.specs.Answers.{value, number, number_in}
use Rattle.wire.specs.Hex.{nibble_of, pair_of, all_hex, unhex, hex_text, lower}
use Rattle.fields.specs.Header.{header_of, code_of}
use Rattle.fields.specs.declared.header.MHDR.{MHDR}
use Rattle.fields.specs.declared.header.PayloadType.{PayloadType}
use Rattle.fields.specs.declared.header.PayloadType.TheVariants.{Uplink, Downlink, Event, Command}
use Rattle.fields.proofs.Laws.Header.{marked}
use Rattle.links.specs.Read.{uplink_at, downlink_at}
use Rattle.events.specs.Read.{stamped_at, event_at, command_at}
use Rattle.packets.specs.Read.{body_in, payload_at, with_payload, with_header, mesh_of, of_mesh, packet_of, packet_says, odd_in, even_mesh}
use Rattle.links.specs.declared.uplink.UplinkPayload.{UplinkPayload}
use Rattle.links.specs.declared.downlink.DownlinkPayload.{DownlinkPayload}
use Rattle.packets.specs.declared.mesh.Payload.TheVariants.{Uplink as AnUplink, Downlink as ADownlink}
use Rattle.packets.specs.declared.mesh.MeshPacket.{MeshPacket}
use Rattle.packets.specs.declared.any.Packet.{Packet}
use Rattle.packets.specs.declared.any.Packet.TheVariants.{Mesh}
use Rattle.packets.specs.declared.any.PacketRead.{PacketRead}
use Rattle.packets.specs.declared.any.PacketRead.TheVariants.{Packet as PacketIs, Refused}
use Rattle.round_trips.specs.Which.{least_frame, mesh_number, packet_number}
use Rattle.round_trips.proofs.Which.{body_length}
use Rattle.dump.specs.Ascii.{ascii}
use Rattle.dump.specs.Dump.{last_digits, decimal, odd_text, line_of, mesh_text, frame_text, bad_hex, line_text, from_digits}
use Rattle.dump.proofs.Examples as examples
use Rattle.dump.proofs.Laws.Decimal.{decimal_back}
use Rattle.dump.proofs.Laws.Text.{text_of, odd_large, odd_inside, mesh_text_most, hex_line, line_bad, line_long, line_text_most}
use Rattle.promises.proofs.Demand2.{packet_reader}

-- ---- the example of 13.11, its four lines and what is printed for each

pub four_lines :
    (line_text (ascii "e012355007020a0b0c0d11223344") ≡ ascii "[Uplink hop_count: 1, uplink_id: 291, relay_id: 0a0b0c0d, mic: 11223344]")
    × (line_text (ascii "f20000003c0a0b0c0d01020304") ≡ ascii "[Event hop_count: 3, timestamp: 60, relay_id: 0a0b0c0d]")
    × (line_text (ascii "40") ≡ ascii "lora 1")
    × (line_text (ascii "e0") ≡ ascii "refused 2")
four_lines = examples.four_lines

-- ---- a frame

-- a mesh frame has the text of the packet that is read
pub mesh_text_lem : (s : List ℕ) (p : MeshPacket) → packet_says (packet_of s) ≡ value (Mesh p) → frame_text s ≡ mesh_text p
mesh_text_lem s p e = by (packet_of s) refl e
  where
    by : (r : PacketRead) → r ≡ packet_of s → packet_says r ≡ value (Mesh p) → frame_text s ≡ mesh_text p
    by (PacketIs q) g h = let z : q ≡ Mesh p = cc in text_of s (PacketIs q) g ∙ rw z refl
    by (Refused n) g h = let z : ◌≡◌ {A = ℕ} 0 1 = cc in absurd (omega arith)

-- a packet in hand that has no MIC: nothing stands in its place
pub uplink_without_mic : (p : MeshPacket) (u : UplinkPayload) → p.payload ≡ AnUplink u → p.has_mic ≡ false
    → mesh_text p ≡ line_of p.mhdr.payload_type p.mhdr.hop_count (ascii ", uplink_id: ") u.metadata.uplink_id u.relay_id (ascii ", mic: ") u.metadata.odd
unfolding mesh_text
uplink_without_mic p u q e = rw (q, e) refl

pub downlink_without_mic : (p : MeshPacket) (u : DownlinkPayload) → p.payload ≡ ADownlink u → p.has_mic ≡ false
    → mesh_text p ≡ line_of p.mhdr.payload_type p.mhdr.hop_count (ascii ", uplink_id: ") u.metadata.uplink_id u.relay_id (ascii ", mic: ") 0
unfolding mesh_text
downlink_without_mic p u q e = rw (q, e) refl

-- 13.13: odd bits are told at the end of an uplink's line, inside the bracket, where they are 1 to 3; all else of a packet's text is as without them
pub odd_bits_inside_the_bracket : (p : MeshPacket)
    → (front : List ℕ) × (mesh_text (even_mesh p) ≡ front ++ ascii "]") × (mesh_text p ≡ front ++ odd_text (odd_in p.payload) ++ ascii "]")
odd_bits_inside_the_bracket = odd_inside

pub odd_bits_are_one_digit : (odd_text 0 ≡ []) × (odd_text 1 ≡ ascii " odd: 1") × (odd_text 2 ≡ ascii " odd: 2") × (odd_text 3 ≡ ascii " odd: 3") × ((n : ℕ) → 3 < n → odd_text n ≡ [])
unfolding odd_text
odd_bits_are_one_digit = (refl, refl, refl, refl, odd_large)

pub odd_lines :
    (line_text (ascii "e012355047020a0b0c0d11223344") ≡ ascii "[Uplink hop_count: 1, uplink_id: 291, relay_id: 0a0b0c0d, mic: 11223344 odd: 1]")
    × (line_text (ascii "e012355087020a0b0c0d11223344") ≡ ascii "[Uplink hop_count: 1, uplink_id: 291, relay_id: 0a0b0c0d, mic: 11223344 odd: 2]")
    × (line_text (ascii "e0123550c7020a0b0c0d11223344") ≡ ascii "[Uplink hop_count: 1, uplink_id: 291, relay_id: 0a0b0c0d, mic: 11223344 odd: 3]")
odd_lines = examples.odd_lines

-- 13.8, of a LoRa frame
pub lora_counts_bytes : (s : List ℕ) → 1 ≤ length s → length s ≤ 8192 → (get_or s 0 0 / 32 ≡ 7 → ⊥) → frame_text s ≡ ascii "lora " ++ decimal (length s)
unfolding frame_text packet_of
lora_counts_bytes s l m h = simp (ne_eqb (length s) 0 (λ e. omega arith), le-ltb 8192 (length s) m, ne_eqb (get_or s 0 0 / 32) 7 h)

-- 13.8, of a refusal: the number is the one that the packet reader gives, and which that is
pub refused_says_the_number : (s : List ℕ) (n : ℕ) → packet_says (packet_of s) ≡ number n → (frame_text s ≡ ascii "refused " ++ decimal n) × (n ≡ packet_number s)
refused_says_the_number s n e = (by (packet_of s) refl e, ap number_in (sym e) ∙ packet_reader s)
  where
    by : (r : PacketRead) → r ≡ packet_of s → packet_says r ≡ number n → frame_text s ≡ ascii "refused " ++ decimal n
    by (PacketIs q) g h = let z : ◌≡◌ {A = ℕ} 0 1 = cc in absurd (omega arith)
    by (Refused k) g h = let z : k ≡ n = cc in text_of s (Refused k) g ∙ rw z refl

-- so no other number than 1, 2, 4 and 5, and 30 of a line, is ever in a dump
never : (p : Packet) (n : ℕ) → value p ≡ number n → ⊥
never p n e = let z : ◌≡◌ {A = ℕ} 0 1 = cc in omega arith

module _ (s : List ℕ) (h : MHDR) (b : List ℕ) (fits : length b ≤ 8187) where
  reads : (t : PayloadType) (n : ℕ) → least_frame (code_of t) ≤ length b + 5 → packet_says (of_mesh (with_payload s h (payload_at t b))) ≡ number n → ⊥
  unfolding payload_at uplink_at downlink_at stamped_at event_at command_at
  reads Uplink n l e = never _ n (simp (le-ltb 8187 (length b) fits, le-ltb (length b) 9 (omega arith)) at e)
  reads Downlink n l e = never _ n (simp (le-ltb 8187 (length b) fits, le-ltb (length b) 10 (omega arith)) at e)
  reads Event n l e = never _ n (simp (le-ltb 8187 (length b) fits, le-ltb (length b) 8 (omega arith)) at e)
  reads Command n l e = never _ n (simp (le-ltb 8187 (length b) fits, le-ltb (length b) 8 (omega arith)) at e)

module _ (s : List ℕ) (n : ℕ) (e : packet_says (packet_of s) ≡ number n) where
  whole_by : 5 ≤ length s → length s ≤ 8192 → get_or s 0 0 / 32 ≡ 7 → least_frame (get_or s 0 0 / 8 % 4) ≤ length s → ⊥
  unfolding packet_of mesh_of
  whole_by l m f q =
      let k = marked (get_or s 0 0) f in
      let b = body_length s l in
      let r : least_frame (code_of k.kind) ≤ length s = rw k.code q in
      let g : packet_says (of_mesh (with_header s (header_of (get_or s 0 0)))) ≡ number n =
      simp (ne_eqb (length s) 0 (λ z. omega arith), le-ltb 8192 (length s) m, eq-eqb (get_or s 0 0 / 32) 7 f, le-ltb (length s) 5 l) at e in
      reads s _ (body_in s) (omega arith) k.kind n (omega arith) (rw k.reads at g)

  numbers_by : (a b c d f : Bool) → eqb (length s) 0 ≡ a → ltb 8192 (length s) ≡ b → eqb (get_or s 0 0 / 32) 7 ≡ c → ltb (length s) 5 ≡ d
      → ltb (length s) (least_frame (get_or s 0 0 / 8 % 4)) ≡ f → n ≡ packet_number s → (n ≡ 1) ⊎ (n ≡ 2) ⊎ (n ≡ 4) ⊎ (n ≡ 5)
  unfolding packet_of packet_number mesh_number
  numbers_by true b true d f ea eb ec ed ef p = inl (p ∙ simp (ea, ec))
  numbers_by true b false d f ea eb ec ed ef p = inl (p ∙ simp (ea, ec))
  numbers_by false true true d f ea eb ec ed ef p = inr (inr (inr (p ∙ simp (ea, eb, ec))))
  numbers_by false true false d f ea eb ec ed ef p = inr (inr (inr (p ∙ simp (ea, eb, ec))))
  numbers_by false false false d f ea eb ec ed ef p = absurd (never _ n (simp (ea, eb, ec) at e))
  numbers_by false false true true f ea eb ec ed ef p = inr (inl (p ∙ simp (ea, eb, ec, ed)))
  numbers_by false false true false true ea eb ec ed ef p = inr (inr (inl (p ∙ simp (ea, eb, ec, ed, ef))))
  numbers_by false false true false false ea eb ec ed ef p = absurd (whole_by (ltb-false _ _ ed) (ltb-false _ _ eb) (eqb-true _ _ ec) (ltb-false _ _ ef))

  pub numbers_in_a_dump : (n ≡ 1) ⊎ (n ≡ 2) ⊎ (n ≡ 4) ⊎ (n ≡ 5)
  numbers_in_a_dump =
      numbers_by (eqb (length s) 0) (ltb 8192 (length s)) (eqb (get_or s 0 0 / 32) 7) (ltb (length s) 5) (ltb (length s) (least_frame (get_or s 0 0 / 8 % 4)))
      refl refl refl refl refl (refused_says_the_number s n e).1

-- a number is written in decimal: it reads back
pub numbers_read_back : (n : ℕ) → n < 4294967296 → from_digits 0 (decimal n) ≡ n
numbers_read_back = decimal_back

-- ---- a line of hex

-- 13.5, of a line of nothing
pub blank_line : line_text [] ≡ ascii "refused 1"
blank_line = (examples.more_lines).0

-- 13.5: 30 comes first, whatever else such a line holds, and however long it is
pub bad_hex_is_30 : (l : List ℕ) → bad_hex l ≡ true → line_text l ≡ ascii "refused 30"
unfolding decimal last_digits
bad_hex_is_30 l b = line_bad l b

-- that is, an odd count of digits, or a byte that is no digit
pub odd_is_30 : (l : List ℕ) → length l % 2 ≡ 1 → line_text l ≡ ascii "refused 30"
unfolding bad_hex
odd_is_30 l h = bad_hex_is_30 l (simp (ne_eqb (length l % 2) 0 (λ e. omega arith)))

no_digit : (l : List ℕ) (i : ℕ) → i < length l → 16 ≤ nibble_of (get_or l i 0) → all_hex l ≡ false
unfolding all_hex
no_digit [] i h n = absurd (omega arith)
no_digit (x ∷ l) zero h n = simp (le-ltb (nibble_of x) 16 n)
no_digit (x ∷ l) (suc i) h n = let e = no_digit l i (omega arith) n in rw e (by (ltb (nibble_of x) 16))
  where
    by : (t : Bool) → pick t false false ≡ false
    by true = refl
    by false = refl

pub no_digit_is_30 : (l : List ℕ) (i : ℕ) → i < length l → 16 ≤ nibble_of (get_or l i 0) → line_text l ≡ ascii "refused 30"
unfolding bad_hex
no_digit_is_30 l i h n = bad_hex_is_30 l (rw (no_digit l i h n) (by (eqb (length l % 2) 0)))
  where
    by : (t : Bool) → pick t true true ≡ true
    by true = refl
    by false = refl

-- so 5 is given to lines of nothing but digits, over 16,384 of them and an even count, whatever they are
pub long_is_5 : (l : List ℕ) → bad_hex l ≡ false → 16385 < length l → line_text l ≡ ascii "refused 5"
unfolding decimal last_digits
long_is_5 l b h = line_long l b (omega arith)

-- a frame in hex has the frame's text
pub hex_has_the_frames_text : (s : List ℕ) → Bytes s → line_text (hex_text s) ≡ frame_text s
hex_has_the_frames_text = hex_line

-- 13.3: A to F in lower case change nothing
same_nibble : (b : ℕ) → nibble_of (lower b) ≡ nibble_of b
unfolding nibble_of
same_nibble b = by (ltb b 65) (ltb b 71) refl refl
  where
    by : (x y : Bool) → ltb b 65 ≡ x → ltb b 71 ≡ y → nibble_of (pick (ltb b 65) b (pick (ltb b 71) (b + 32) b)) ≡ nibble_of b
    by true y p q = simp p
    by false false p q = simp (p, q)
    by false true p q =
        let l : 65 ≤ b = ltb-false _ _ p in
        let m : b < 71 = ltb-true _ _ q in
        simp (
          p,
          q,
          le-ltb (b + 32) 48 (omega arith),
          le-ltb (b + 32) 58 (omega arith),
          le-ltb (b + 32) 65 (omega arith),
          le-ltb (b + 32) 71 (omega arith),
          le-ltb (b + 32) 97 (omega arith),
          lt-ltb (b + 32) 103 (omega arith),
          le-ltb b 48 (omega arith),
          le-ltb b 58 (omega arith),
        )
        (omega arith)

same_length : (l : List ℕ) → length (map lower l) ≡ length l
same_length [] = refl
same_length (x ∷ l) = ap suc (same_length l)

same_hex : (l : List ℕ) → all_hex (map lower l) ≡ all_hex l
unfolding all_hex
same_hex [] = refl
same_hex (x ∷ l) = rw (same_nibble x, same_hex l) refl

same_bytes : (l : List ℕ) → unhex (map lower l) ≡ unhex l
unfolding unhex pair_of
same_bytes [] = refl
same_bytes (x ∷ []) = refl
same_bytes (x ∷ y ∷ l) = rw (same_nibble x, same_nibble y, same_bytes l) refl

pub either_case : (l : List ℕ) → line_text (map lower l) ≡ line_text l
unfolding line_text bad_hex
either_case l = rw (same_length l, same_hex l, same_bytes l) refl

-- no text is longer than 90 bytes, of a packet in hand neither, whose hop count is a byte, so an output of 90 is never too short
pub text_is_short : (l : List ℕ) → length (line_text l) ≤ 90
text_is_short = line_text_most

pub packet_text_is_short : (p : MeshPacket) → p.mhdr.hop_count ≤ 255 → length (mesh_text p) ≤ 90
packet_text_is_short = mesh_text_most
