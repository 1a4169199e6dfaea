-- Laws of hex text: its length and its digits by their index, and that what is written reads back. Assumes nothing.
use Prim.Native.Nat.{ℕ, zero, suc, ◌+◌, ◌*◌, ◌/◌, ◌%◌, ◌<◌}
use native.Mathlib.Nat.{le_of_suc-le-suc, not-suc-le-zero}
use native.Mathlib.Omega.{arith}
use mathlib.Core.Path.{◌≡◌, refl, ap, ◌∙◌}
use mathlib.Core.Bool.{Bool, true, false, ◌&&◌}
use mathlib.Core.List.{List, [], ◌∷◌}
use lib.Dec.{ltb, eqb}
use lib.ListN.{length, get_or}
use borrow.Author.Tests.{lt-ltb, eqb-true}
use Rattle.std.proofs.lemmas.Bool.{agree_below, agree_below_at}
use Rattle.std.specs.Char.{is_ascii_hexdigit}
use Rattle.std.specs.List.{list_all}
use Rattle.std.specs.Simd.{first_chunks}
use Rattle.base.specs.Pick.{pick}
use Rattle.base.specs.Lists.{Bytes}
use Rattle.base.proofs.Lists.{◌◂◌}
use Rattle.wire.specs.Hex.{nibble_of, digit_of, pair_of, all_hex, unhex, hex_text}

-- a digit by std's test, at each of the 256 bytes
abbrev is_digit : ℕ → Bool
is_digit b = ltb (nibble_of b) 16

all_agree : agree_below is_ascii_hexdigit is_digit 256 ≡ true
unfolding nibble_of
all_agree = refl

pub all_is : (s : List ℕ) → Bytes s → list_all is_ascii_hexdigit s ≡ all_hex s
unfolding all_hex
all_is [] h = refl
all_is (b ∷ s) h = rw (agree_below_at is_ascii_hexdigit is_digit 256 b all_agree (h 0)) (by (is_digit b) (all_is s (λ i. h (suc i))))
  where
    by : {x y : Bool} (t : Bool) → x ≡ y → (t && x) ≡ pick t y false
    by true e = e
    by false e = refl

pub unhex_length : (s : List ℕ) → length (unhex s) ≡ length s / 2
unfolding unhex
unhex_length [] = refl
unhex_length (a ∷ []) = refl
unhex_length (a ∷ b ∷ s) = let e : length (unhex s) ≡ length s / 2 = unhex_length s in omega arith

-- a byte is of the pair at its place
pub unhex_at : (s : List ℕ) (n i : ℕ) (d : List ℕ) → n ≡ length s / 2 → i < n → get_or (unhex s) i 0 ≡ pair_of (get_or (get_or (first_chunks 2 n s) i d) 0 0) (get_or (get_or (first_chunks 2 n s) i d) 1 0)
unfolding unhex
unhex_at s zero i d e h = absurd (omega arith)
unhex_at [] (suc n) i d e h = absurd (omega arith)
unhex_at (a ∷ []) (suc n) i d e h = absurd (omega arith)
unhex_at (a ∷ b ∷ s) (suc n) zero d e h = refl
unhex_at (a ∷ b ∷ s) (suc n) (suc i) d e h = unhex_at s n i d (omega arith) (omega arith)

pub hex_length : (s : List ℕ) → length (hex_text s) ≡ 2 * length s
unfolding hex_text
hex_length [] = refl
hex_length (b ∷ s) = let e : length (hex_text s) ≡ 2 * length s = hex_length s in omega arith

pub hex_even : (s : List ℕ) (i : ℕ) → i < length s → get_or (hex_text s) (2 * i) 0 ≡ digit_of (get_or s i 0 / 16 % 16)
unfolding hex_text
hex_even [] i h = absurd (not-suc-le-zero h)
hex_even (b ∷ s) zero h = refl
hex_even (b ∷ s) (suc i) h =
    let x : 2 * suc i ≡ suc (suc (2 * i)) = omega arith in
    ap (λ (j : ℕ). get_or (hex_text (b ∷ s)) j 0) x ∙ hex_even s i (le_of_suc-le-suc h)

pub hex_odd : (s : List ℕ) (i : ℕ) → i < length s → get_or (hex_text s) (2 * i + 1) 0 ≡ digit_of (get_or s i 0 % 16)
unfolding hex_text
hex_odd [] i h = absurd (not-suc-le-zero h)
hex_odd (b ∷ s) zero h = refl
hex_odd (b ∷ s) (suc i) h =
    let x : 2 * suc i + 1 ≡ suc (suc (2 * i + 1)) = omega arith in
    ap (λ (j : ℕ). get_or (hex_text (b ∷ s)) j 0) x ∙ hex_odd s i (le_of_suc-le-suc h)

-- a digit that is written is a digit, and is read as what it stands for: a test at each of the sixteen
abbrev same : ℕ → Bool
same n = eqb (nibble_of (digit_of n)) n

all_same : agree_below same (λ _. true) 16 ≡ true
unfolding nibble_of digit_of
all_same = refl

pub nibble_digit : (n : ℕ) → n < 16 → nibble_of (digit_of n) ≡ n
nibble_digit n h = eqb-true _ n (agree_below_at same (λ _. true) 16 n all_same h)

pub hex_all : (s : List ℕ) → all_hex (hex_text s) ≡ true
unfolding all_hex hex_text
hex_all [] = refl
hex_all (b ∷ s) =
    let x : nibble_of (digit_of (b / 16 % 16)) < 16 = rw (nibble_digit (b / 16 % 16) (omega arith)) (omega arith) in
    let y : nibble_of (digit_of (b % 16)) < 16 = rw (nibble_digit (b % 16) (omega arith)) (omega arith) in
    simp (lt-ltb (nibble_of (digit_of (b / 16 % 16))) 16 x, lt-ltb (nibble_of (digit_of (b % 16))) 16 y) (hex_all s)

pub hex_back : (s : List ℕ) → Bytes s → unhex (hex_text s) ≡ s
unfolding unhex hex_text pair_of
hex_back [] h = refl
hex_back (b ∷ s) h =
    let l : b < 256 = h 0 in
    (rw (nibble_digit (b / 16 % 16) (omega arith), nibble_digit (b % 16) (omega arith)) (omega arith)) ◂ hex_back s (λ i. h (suc i))
