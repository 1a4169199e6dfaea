-- Bit by bit, the frame after an edit is the frame before it where `may_differ` says no. Assumes nothing.
use Prim.Native.Nat.{ℕ, zero, suc, ◌+◌, ◌-◌, ◌*◌, ◌/◌, ◌%◌, ◌^◌, ◌≤◌, ◌<◌}
use native.Mathlib.Nat.{pow-succ', div-div-eq-div-mul}
use native.Mathlib.Omega.{arith}
use mathlib.Core.Bool.{Bool, true, false, ◌&&◌, ◌||◌}
use mathlib.Core.Path.{◌≡◌, refl, sym, ap, ◌∙◌}
use mathlib.Core.List.{List, ◌++◌}
use lib.Dec.{eqb}
use lib.ListN.{length, get_or, drop, get_or-append}
use lib.Seq.{get_or-take, get_or-drop, get_or-set_same, get_or-set_other}
use borrow.Author.Tests.{ltb-false, leb-false, eq-eqb, eqb-true, eqb-false}
use Rattle.base.specs.Lists.{Bytes}
use Rattle.wire.specs.Number.{be_bytes}
use Rattle.fields.specs.Signal.{even_byte}
use Rattle.fields.specs.Header.{code_of, header_byte}
use Rattle.fields.specs.declared.header.HeaderByte.TheVariants.{Byte}
use Rattle.fields.specs.declared.header.PayloadType.{PayloadType}
use Rattle.fields.specs.declared.header.PayloadType.TheVariants.{Uplink, Downlink, Event, Command}
use Rattle.fields.proofs.Laws.Header.{accepted, header_again}
use Rattle.packets.specs.Read.{body_in, mesh_of}
use Rattle.packets.specs.declared.mesh.MeshPacket.{MeshPacket}
use Rattle.packets.specs.declared.mesh.MeshRead.TheVariants.{Mesh}
use Rattle.round_trips.proofs.Again.{was_read}
use Rattle.round_trips.proofs.Same.{kind_is, cleared_of}
use Rattle.hops.specs.Hops.{carrying_count}
use Rattle.demand.specs.Demand.{bit_of, may_differ, Edit}
use Rattle.demand.proofs.Edited.{least_of_lem, found, new_body, body_long, new_mic, new_frame}

-- ---- what `may_differ` says no to

or_no : (a b : Bool) → (a || b) ≡ false → (a ≡ false) × (b ≡ false)
or_no true b e = let z : ◌≡◌ {A = ℕ} 0 1 = cc in absurd (omega arith)
or_no false b e = (refl, e)

and_no : (a b : Bool) → (a && b) ≡ false → a ≡ true → b ≡ false
and_no true b e h = e
and_no false b e h = let z : ◌≡◌ {A = ℕ} 0 1 = cc in absurd (omega arith)

record Kept (s : List ℕ) (j i : ℕ) : Type 0 where
  count : j ≡ 0 → 3 ≤ i
  inside : j + 4 < length s
  snr : get_or s 0 0 / 8 % 4 ≡ 0 → j ≡ 4 → i < 6

kept : (s : List ℕ) (j i : ℕ) → may_differ s j i ≡ false → Kept s j i
unfolding may_differ
kept s j i e =
    let a = or_no _ _ e in
    let b = or_no _ _ a.1 in
    record {
      count = λ z. ltb-false _ _ (and_no (eqb j 0) _ a.0 (eq-eqb j 0 z));
      inside = leb-false _ _ b.0;
      snr = λ u z. leb-false _ _ (and_no (eqb j 4) _ (and_no (eqb (get_or s 0 0 / 8 % 4) 0) _ b.1 (eq-eqb _ _ u)) (eq-eqb j 4 z));
    }

-- ---- bits of a byte

from_three : (x k : ℕ) → x / 2 ^ suc (suc (suc k)) % 2 ≡ x / 8 / 2 ^ k % 2
from_three x k =
    let P = 2 ^ k in
    let e : 2 * (2 * (2 * P)) ≡ 8 * P = omega arith in
    ap (λ (m : ℕ). x / m % 2) (pow-succ' 2 (suc (suc k)) ∙ ap (λ (m : ℕ). 2 * m) (pow-succ' 2 (suc k) ∙ ap (λ (m : ℕ). 2 * m) (pow-succ' 2 k)) ∙ e)
    ∙ ap (λ (m : ℕ). m % 2) (sym (div-div-eq-div-mul x 8 P))

high : (x y i : ℕ) → x / 8 ≡ y / 8 → 3 ≤ i → x / 2 ^ i % 2 ≡ y / 2 ^ i % 2
high x y zero e h = absurd (omega arith)
high x y (suc zero) e h = absurd (omega arith)
high x y (suc (suc zero)) e h = absurd (omega arith)
high x y (suc (suc (suc k))) e h = from_three x k ∙ ap (λ (m : ℕ). m / 2 ^ k % 2) e ∙ sym (from_three y k)

low : (x i : ℕ) → i < 6 → x % 64 / 2 ^ i % 2 ≡ x / 2 ^ i % 2
low x zero h = omega arith
low x (suc zero) h = omega arith
low x (suc (suc zero)) h = omega arith
low x (suc (suc (suc zero))) h = omega arith
low x (suc (suc (suc (suc zero)))) h = omega arith
low x (suc (suc (suc (suc (suc zero))))) h = omega arith
low x (suc (suc (suc (suc (suc (suc i)))))) h = absurd (omega arith)

-- ---- of a body

module _ (b : List ℕ) (least : 8 ≤ length b) (j i : ℕ) where
  up_bit : (t : Bool) → eqb j 3 ≡ t → (j ≡ 3 → i < 6) → bit_of (cleared_of Uplink b) j i ≡ bit_of b j i
  up_bit true e h =
      let v = even_byte (get_or b 3 0) in
      let z : j ≡ 3 = eqb-true j 3 e in
      rw z (ap (λ (m : ℕ). m / 2 ^ i % 2) (get_or-set_same b 3 v 0 (omega arith)) ∙ low (get_or b 3 0) i (h z))
  up_bit false e h = ap (λ (m : ℕ). m / 2 ^ i % 2) (get_or-set_other b 3 j (even_byte (get_or b 3 0)) 0 (eqb-false j 3 e))

  body_bit : (t : PayloadType) → (code_of t ≡ 0 → j ≡ 3 → i < 6) → bit_of (cleared_of t b) j i ≡ bit_of b j i
  body_bit Uplink h = up_bit (eqb j 3) refl (h refl)
  body_bit Downlink h = refl
  body_bit Event h = refl
  body_bit Command h = refl

-- ---- of the frame

module _ (s : List ℕ) (p : MeshPacket) (small : Bytes s) (read : mesh_of s ≡ Mesh p) (e : Edit) (v : ℕ) (byte : header_byte (carrying_count p e.count).mhdr ≡ Byte v) where
  abbrev x : ℕ
  x = get_or s 0 0

  top_same : v / 8 ≡ x / 8
  top_same =
      let a = accepted (carrying_count p e.count).mhdr v byte in
      let b = accepted p.mhdr x (header_again x (small 0) p.mhdr (was_read s p read).header) in
      let a1 : e.count ≤ 8 = a.most in
      let a2 : 224 + code_of p.mhdr.payload_type * 8 + (e.count - 1) ≡ v = a.is in
      let b1 : p.mhdr.hop_count ≤ 8 = b.most in
      let b2 : 224 + code_of p.mhdr.payload_type * 8 + (p.mhdr.hop_count - 1) ≡ x = b.is in
      omega arith

  pub same_bit : (j i : ℕ) → may_differ s j i ≡ false → bit_of (new_frame s p small read e v byte) j i ≡ bit_of s j i
  same_bit zero i h = high v x i top_same ((kept s 0 i h).count refl)
  same_bit (suc j) i h =
      let b = body_in s in
      let B = new_body s p small read in
      let m = be_bytes 4 (new_mic s p small read e v byte) in
      let k = kept s (suc j) i h in
      let l : suc j + 4 < length s = k.inside in
      let d : length B ≡ length s - 5 = body_long s p small read in
      let g : get_or (B ++ m) j 0 ≡ get_or B j 0 = get_or-append B m 0 j (omega arith) in
      let f : get_or b j 0 ≡ get_or s (suc j) 0 =
      get_or-take (length s - 4 - 1) (drop 1 s) j 0 (omega arith) ∙ get_or-drop 1 s j 0 ∙ ap (λ (y : ℕ). get_or s y 0) (let z : 1 + j ≡ suc j = omega arith in z) in
      let u : code_of p.mhdr.payload_type ≡ x / 8 % 4 = kind_is x p.mhdr (was_read s p read).header in
      ap (λ (y : ℕ). y / 2 ^ i % 2) g
      ∙ body_bit b (least_of_lem b p.payload (found s p small read)) j i p.mhdr.payload_type (λ q z. k.snr (sym u ∙ q) (ap suc z))
      ∙ ap (λ (y : ℕ). y / 2 ^ i % 2) f
