-- Laws of the header byte. Assumes nothing.
use Prim.Native.Nat.{ℕ, zero, suc, ◌+◌, ◌-◌, ◌*◌, ◌/◌, ◌%◌, ◌<◌, ◌≤◌}
use native.Mathlib.Omega.{arith}
use mathlib.Core.Bool.{Bool, true, false}
use mathlib.Core.Path.{◌≡◌, refl, ap}
use mathlib.Core.Logic.{◌⊎◌, inl, inr}
use lib.Dec.{ltb, eqb, lit<}
use borrow.Author.Tests.{eq-eqb, ne_eqb, le-ltb, eqb-true, eqb-false, ltb-false}
use Rattle.base.specs.Pick.{pick}
use Rattle.base.specs.Numbers.{not_mesh, hops_none, hops_many}
use Rattle.fields.specs.Header.{type_read, code_of, typed, header_of, header_byte}
use Rattle.fields.specs.declared.header.PayloadType.{PayloadType}
use Rattle.fields.specs.declared.header.PayloadType.TheVariants.{Uplink, Downlink, Event, Command}
use Rattle.fields.specs.declared.header.TypeRead.TheVariants.{Kind}
use Rattle.fields.specs.declared.header.MHDR.{MHDR}
use Rattle.fields.specs.declared.header.HeaderRead.TheVariants.{Header, Refused}
use Rattle.fields.specs.declared.header.HeaderByte.{HeaderByte}
use Rattle.fields.specs.declared.header.HeaderByte.TheVariants.{Byte, Refused as NoByte}

-- ---- the two bits of type

pub code_lt : (t : PayloadType) → code_of t < 4
code_lt Uplink = lit< tt
code_lt Downlink = lit< tt
code_lt Event = lit< tt
code_lt Command = lit< tt

pub type_back : (t : PayloadType) → type_read (code_of t) ≡ Kind t
unfolding type_read
type_back Uplink = refl
type_back Downlink = refl
type_back Event = refl
type_back Command = refl

-- two bits always are a type: 29 never comes from a header
pub type_of_two_bits : (n : ℕ) → n < 4 → (t : PayloadType) × (type_read n ≡ Kind t) × (code_of t ≡ n)
unfolding type_read
type_of_two_bits zero h = (Uplink, refl, refl)
type_of_two_bits (suc zero) h = (Downlink, refl, refl)
type_of_two_bits (suc (suc zero)) h = (Event, refl, refl)
type_of_two_bits (suc (suc (suc zero))) h = (Command, refl, refl)
type_of_two_bits (suc (suc (suc (suc n)))) h = absurd (omega arith)

-- ---- reading

-- what a byte that begins with 111 is read as
pub record Marked (b : ℕ) : Type 0 where
  pub kind : PayloadType
  pub reads : header_of b ≡ Header (record { payload_type = kind; hop_count = b % 8 + 1 })
  pub code : code_of kind ≡ b / 8 % 4

pub marked : (b : ℕ) → b / 32 ≡ 7 → Marked b
unfolding header_of
marked b h =
    let t = type_of_two_bits (b / 8 % 4) (omega arith) in
    record { kind = t.0; reads = simp (eq-eqb (b / 32) 7 h) (ap (typed (b % 8 + 1)) t.1); code = t.2 }

pub not_marked : (b : ℕ) → (b / 32 ≡ 7 → ⊥) → header_of b ≡ Refused not_mesh
unfolding header_of
not_marked b h = simp (ne_eqb (b / 32) 7 h)

-- a header exactly where the top three bits are 111, and 3 otherwise
pub header_only_three : (b : ℕ) → b < 256
    → ((b / 32 ≡ 7) × (h : MHDR) × (header_of b ≡ Header h)) ⊎ ((b / 32 ≡ 7 → ⊥) × (header_of b ≡ Refused not_mesh))
header_only_three b l = by (eqb (b / 32) 7) refl
  where
    by : (t : Bool) → eqb (b / 32) 7 ≡ t → ((b / 32 ≡ 7) × (h : MHDR) × (header_of b ≡ Header h)) ⊎ ((b / 32 ≡ 7 → ⊥) × (header_of b ≡ Refused not_mesh))
    by true e = let m = marked b (eqb-true _ _ e) in inl (eqb-true _ _ e, _, m.reads)
    by false e = inr (eqb-false _ _ e, not_marked b (eqb-false _ _ e))

-- ---- writing

past : (t : Bool) (n b : ℕ) (x : HeaderByte) → pick t (NoByte n) x ≡ Byte b → (t ≡ false) × (x ≡ Byte b)
past true n b x e = let z : ◌≡◌ {A = ℕ} 0 1 = cc in absurd (omega arith)
past false n b x e = (refl, e)

pub record Accepted (h : MHDR) (b : ℕ) : Type 0 where
  pub least : 1 ≤ h.hop_count
  pub most : h.hop_count ≤ 8
  pub is : 224 + code_of h.payload_type * 8 + (h.hop_count - 1) ≡ b

pub accepted : (h : MHDR) (b : ℕ) → header_byte h ≡ Byte b → Accepted h b
unfolding header_byte
accepted h b e =
    let u = past (ltb h.hop_count 1) hops_none b _ e in
    let v = past (ltb 8 h.hop_count) hops_many b _ u.1 in
    record { least = ltb-false _ _ u.0; most = ltb-false _ _ v.0; is = cc v.1 }

pub header_byte_lt : (h : MHDR) (b : ℕ) → header_byte h ≡ Byte b → b < 256
header_byte_lt h b e = let a = accepted h b e in omega (arith, code_lt h.payload_type)

pub header_byte_least : (h : MHDR) (b : ℕ) → header_byte h ≡ Byte b → 224 ≤ b
header_byte_least h b e = let a = accepted h b e in omega arith

-- ---- both ways

-- what is written is read back
pub header_back : (h : MHDR) (b : ℕ) → header_byte h ≡ Byte b → header_of b ≡ Header h
unfolding header_of
header_back h b e =
    let a = accepted h b e in
    let c = code_lt h.payload_type in
    let top : b / 32 ≡ 7 = omega arith in
    let two : b / 8 % 4 ≡ code_of h.payload_type = omega arith in
    let low : b % 8 + 1 ≡ h.hop_count = omega arith in
    simp (eq-eqb _ _ top, two, low, type_back)

-- what is read is written as the same byte
pub header_again : (b : ℕ) → b < 256 → (h : MHDR) → header_of b ≡ Header h → header_byte h ≡ Byte b
unfolding header_byte
header_again b l h e = by (eqb (b / 32) 7) refl
  where
    write : (m : Marked b) → b / 32 ≡ 7 → header_byte (record { payload_type = m.kind; hop_count = b % 8 + 1 }) ≡ Byte b
    write m t = simp (le-ltb (b % 8 + 1) 1 (omega arith), le-ltb 8 (b % 8 + 1) (omega arith)) (ap Byte (omega arith))

    by : (t : Bool) → eqb (b / 32) 7 ≡ t → header_byte h ≡ Byte b
    by true t =
        let m = marked b (eqb-true _ _ t) in
        let s : record { payload_type = m.kind; hop_count = b % 8 + 1 } ≡ h = cc m.reads in
        rw (← s) (write m (eqb-true _ _ t))
    by false t = let z : ◌≡◌ {A = ℕ} 0 1 = cc (not_marked b (eqb-false _ _ t)) in absurd (omega arith)
