-- Laws of rssi and snr. Signed numbers go by cases on their sign: omega does not read them. Assumes nothing.
use Prim.Native.Nat.{ℕ, zero, suc, ◌+◌, ◌-◌, ◌/◌, ◌%◌, ◌<◌, ◌≤◌, ◌^◌}
use native.Mathlib.Omega.{arith}
use mathlib.Core.Bool.{Bool, true, false}
use mathlib.Core.Path.{◌≡◌, refl, sym, ap, ◌∙◌}
use mathlib.Core.List.{List}
use lib.IntN.{ℤ, pos, negsuc, neg_ℤ, nat_abs, ◌-ℤ◌, ◌+ℤ◌}
use lib.Signed.{lt_z, non_neg}
use lib.Dec.{T, ltb, lit<}
use lib.ListN.{length, get_or, set}
use lib.Seq.{get_or-set_same, get_or-set_other, set-get_or}
use mir.Syntax.{Width, w8, w16}
use mir.Val.{SFits, hbits}
use borrow.Author.Tests.{lt-ltb, le-ltb, ltb-true, ltb-false}
use Rattle.base.specs.Pick.{pick}
use Rattle.base.specs.Numbers.{rssi_large, rssi_small, snr_small, snr_large}
use Rattle.fields.specs.Signal.{rssi_of, even_byte, even_at, snr_of, rssi_byte, snr_byte}
use Rattle.fields.specs.declared.signal.SnrRead.{SnrRead}
use Rattle.fields.specs.declared.signal.SignalByte.TheVariants.{Byte, Refused}

-- ---- what the code computes, by the tests that it makes

-- minus a small number
pub minus : (n : ℕ) → pos 0 -ℤ pos n ≡ neg_ℤ (pos n)
minus zero = refl
minus (suc n) = let e : suc n - 1 ≡ n = omega arith in simp (lt-ltb 0 (suc n) (omega arith), e)

pub neg_fits : (w : Width) (n : ℕ) → n ≤ 2 ^ hbits w → 0 < 2 ^ hbits w → SFits w (neg_ℤ (pos n))
neg_fits w zero h k = record { sfits = k }
neg_fits w (suc n) h k = record { sfits = h }

pub rssi_over : (x : ℤ) → lt_z (pos 0) x ≡ true → Refused rssi_large ≡ rssi_byte x
unfolding rssi_byte
rssi_over (pos zero) e = absurd (let h = ltb-true 0 0 e in omega arith)
rssi_over (pos (suc n)) e = refl
rssi_over (negsuc n) e = let z : ◌≡◌ {A = ℕ} 0 1 = cc in absurd (omega arith)

pub rssi_under : (x : ℤ) → lt_z x (negsuc 254) ≡ true → Refused rssi_small ≡ rssi_byte x
unfolding rssi_byte
rssi_under (pos n) e = let z : ◌≡◌ {A = ℕ} 0 1 = cc in absurd (omega arith)
rssi_under (negsuc n) e = let h = ltb-true 254 n e in simp (le-ltb n 255 (omega arith))

pub record RssiFits (x : ℤ) : Type 0 where
  pub fits : SFits w16 (pos 0 -ℤ x)
  pub sign : T (non_neg (pos 0 -ℤ x))
  pub byte : nat_abs (pos 0 -ℤ x) < 256
  pub wire : Byte (nat_abs (pos 0 -ℤ x)) ≡ rssi_byte x

pub rssi_fits : (x : ℤ) → lt_z (pos 0) x ≡ false → lt_z x (negsuc 254) ≡ false → RssiFits x
unfolding rssi_byte
rssi_fits (pos zero) e f = record { fits = record { sfits = lit< tt }; sign = tt; byte = lit< tt; wire = refl }
rssi_fits (pos (suc n)) e f = absurd (let h = ltb-false 0 (suc n) e in omega arith)
rssi_fits (negsuc n) e f =
    let h = ltb-false 254 n f in
    let k : 0 + suc n ≡ n + 1 = omega arith in
    record { fits = record { sfits = omega arith }; sign = tt; byte = omega arith; wire = simp (lt-ltb n 255 (omega arith)) (ap Byte k) }

pub snr_under : (x : ℤ) → lt_z x (negsuc 31) ≡ true → Refused snr_small ≡ snr_byte x
unfolding snr_byte
snr_under (pos n) e = let z : ◌≡◌ {A = ℕ} 0 1 = cc in absurd (omega arith)
snr_under (negsuc n) e = let h = ltb-true 31 n e in simp (le-ltb n 32 (omega arith))

pub snr_over : (x : ℤ) → lt_z (pos 31) x ≡ true → Refused snr_large ≡ snr_byte x
unfolding snr_byte
snr_over (pos n) e = let h = ltb-true 31 n e in simp (le-ltb n 32 (omega arith))
snr_over (negsuc n) e = let z : ◌≡◌ {A = ℕ} 0 1 = cc in absurd (omega arith)

-- y is the number that is cast to the byte of x
pub record SnrFits (x y : ℤ) : Type 0 where
  pub fits : SFits w8 y
  pub sign : T (non_neg y)
  pub byte : nat_abs y < 256
  pub wire : Byte (nat_abs y) ≡ snr_byte x

pub snr_plus : (x : ℤ) → lt_z x (pos 0) ≡ false → lt_z (pos 31) x ≡ false → SnrFits x x
unfolding snr_byte
snr_plus (pos n) e f =
    let h = ltb-false 31 n f in
    record { fits = record { sfits = omega arith }; sign = tt; byte = omega arith; wire = simp (lt-ltb n 32 (omega arith)) }
snr_plus (negsuc n) e f = let z : ◌≡◌ {A = ℕ} 0 1 = cc in absurd (omega arith)

pub snr_minus : (x : ℤ) → lt_z x (pos 0) ≡ true → lt_z x (negsuc 31) ≡ false → SnrFits x (x +ℤ pos 64)
unfolding snr_byte
snr_minus (pos n) e f = let h = ltb-true n 0 e in absurd (omega arith)
snr_minus (negsuc n) e f =
    let h = ltb-false 31 n f in
    let k : 64 - suc n ≡ 63 - n = omega arith in
    simp (le-ltb 64 (suc n) (omega arith))
    (record { fits = record { sfits = omega arith }; sign = tt; byte = omega arith; wire = simp (lt-ltb n 32 (omega arith)) (ap Byte k) })

-- ---- both ways

-- where a byte comes of a test, the test held, and the byte is its
of_pick : (t : Bool) (k n b : ℕ) → pick t (Byte k) (Refused n) ≡ Byte b → (t ≡ true) × (k ≡ b)
of_pick true k n b e = (refl, cc)
of_pick false k n b e = let z : ◌≡◌ {A = ℕ} 0 1 = cc in absurd (omega arith)

pub rssi_byte_lt : (x : ℤ) (b : ℕ) → rssi_byte x ≡ Byte b → b < 256
unfolding rssi_byte
rssi_byte_lt (pos zero) b e = let z : 0 ≡ b = cc in omega arith
rssi_byte_lt (pos (suc n)) b e = let z : ◌≡◌ {A = ℕ} 0 1 = cc in absurd (omega arith)
rssi_byte_lt (negsuc n) b e = let p = of_pick (ltb n 255) (n + 1) rssi_small b e in let l = ltb-true n 255 p.0 in omega arith

pub rssi_back : (x : ℤ) (b : ℕ) → rssi_byte x ≡ Byte b → rssi_of b ≡ x
unfolding rssi_byte rssi_of
rssi_back (pos zero) b e = let z : 0 ≡ b = cc in rw (← z)
rssi_back (pos (suc n)) b e = let z : ◌≡◌ {A = ℕ} 0 1 = cc in absurd (omega arith)
rssi_back (negsuc n) b e =
    let p = of_pick (ltb n 255) (n + 1) rssi_small b e in
    let s : b ≡ suc n = omega arith in
    rw s

pub rssi_again : (b : ℕ) → b < 256 → rssi_byte (rssi_of b) ≡ Byte b
unfolding rssi_byte rssi_of
rssi_again zero h = refl
rssi_again (suc n) h = simp (lt-ltb n 255 (omega arith)) (ap Byte (omega arith))

pub snr_byte_lt : (x : ℤ) (b : ℕ) → snr_byte x ≡ Byte b → b < 64
unfolding snr_byte
snr_byte_lt (pos n) b e = let p = of_pick (ltb n 32) n snr_large b e in let l = ltb-true n 32 p.0 in omega arith
snr_byte_lt (negsuc n) b e = let p = of_pick (ltb n 32) (63 - n) snr_small b e in omega arith

-- what is written is read back, without odd bits
abbrev pub even_read : ℤ → SnrRead
even_read x = record { snr = x; odd = 0 }

pub snr_back : (x : ℤ) (b : ℕ) → snr_byte x ≡ Byte b → snr_of b ≡ even_read x
unfolding snr_byte snr_of
snr_back (pos n) b e =
    let p = of_pick (ltb n 32) n snr_large b e in
    let l = ltb-true n 32 p.0 in
    let s : b % 64 ≡ n = omega arith in
    let o : b / 64 ≡ 0 = omega arith in
    rw (s, o) (simp (lt-ltb n 32 l))
snr_back (negsuc n) b e =
    let p = of_pick (ltb n 32) (63 - n) snr_small b e in
    let l = ltb-true n 32 p.0 in
    let s : 64 - b % 64 ≡ suc n = omega arith in
    let o : b / 64 ≡ 0 = omega arith in
    simp (le-ltb (b % 64) 32 (omega arith), s, o)

-- and what is read is written without them
pub snr_again : (b : ℕ) → b < 256 → snr_byte (snr_of b).snr ≡ Byte (even_byte b)
unfolding snr_byte snr_of
snr_again b h = by (ltb (b % 64) 32) refl
  where
    by : (t : Bool) → ltb (b % 64) 32 ≡ t → snr_byte (snr_of b).snr ≡ Byte (b % 64)
    by true e = simp e
    by false e =
        let l = ltb-false (b % 64) 32 e in
        let s : 64 - b % 64 ≡ suc (63 - b % 64) = omega arith in
        simp (e, s, lt-ltb (63 - b % 64) 32 (omega arith)) (ap Byte (omega arith))

-- the odd bits do not count but as such, and the byte is written as it was exactly if they are 0
pub snr_even : (b : ℕ) → snr_of (even_byte b) ≡ even_read (snr_of b).snr
unfolding snr_of
snr_even b =
    let s : b % 64 % 64 ≡ b % 64 = omega arith in
    let o : b % 64 / 64 ≡ 0 = omega arith in
    rw (s, o)

pub odd_is : (b : ℕ) → (snr_of b).odd ≡ b / 64
unfolding snr_of
odd_is b = refl

-- of a list of bytes
pub even_other : (b : List ℕ) (i k : ℕ) → (k ≡ i → ⊥) → get_or (even_at b i) k 0 ≡ get_or b k 0
even_other b i k n = get_or-set_other b i k (even_byte (get_or b i 0)) 0 n

pub even_read_lem : (b : List ℕ) (i : ℕ) → i < length b → snr_of (get_or (even_at b i) i 0) ≡ even_read (snr_of (get_or b i 0)).snr
even_read_lem b i l = ap snr_of (get_or-set_same b i (even_byte (get_or b i 0)) 0 l) ∙ snr_even (get_or b i 0)

pub even_same : (b : ℕ) → ((snr_of b).odd ≡ 0 → even_byte b ≡ b) × (even_byte b ≡ b → (snr_of b).odd ≡ 0)
even_same b = let o = odd_is b in (λ e. omega arith, λ e. omega arith)

pub even_list : (b : List ℕ) (i : ℕ) → i < length b → ((snr_of (get_or b i 0)).odd ≡ 0 → even_at b i ≡ b) × (even_at b i ≡ b → (snr_of (get_or b i 0)).odd ≡ 0)
even_list b i l =
    let x = get_or b i 0 in (
      λ e. ap (set b i) ((even_same x).0 e) ∙ set-get_or b i 0,
      λ e. (even_same x).1 (sym (get_or-set_same b i (even_byte x) 0 l) ∙ ap (λ (y : List ℕ). get_or y i 0) e),
    )
