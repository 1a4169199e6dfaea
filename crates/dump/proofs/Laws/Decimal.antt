-- Laws of numbers in decimal, and what the loop that finds the digits keeps. Assumes nothing.
use Prim.Native.Nat.{ℕ, zero, suc, ◌+◌, ◌-◌, ◌*◌, ◌/◌, ◌%◌, ◌^◌, ◌≤◌, ◌<◌}
use native.Mathlib.Nat.{pow-suc}
use native.Mathlib.Omega.{arith}
use mathlib.Core.Path.{◌≡◌, refl, sym, ap, ◌∙◌}
use mathlib.Core.Bool.{Bool, true, false}
use mathlib.Core.List.{List, [], ◌∷◌, ◌++◌, append-nil}
use lib.Dec.{ltb}
use lib.ListN.{length, set, replicate, length-append, length-replicate}
use lib.Seq.{append_snoc, drop_at, take_all}
use borrow.Author.Tests.{lt-ltb, le-ltb, ltb-false}
use Rattle.base.specs.Pick.{pick}
use Rattle.wire.specs.Part.{part_of}
use Rattle.dump.specs.Dump.{last_digits, decimal, from_digits}
use Rattle.dump.specs.inner.Digits.{digits_of}
use Rattle.dump.specs.declared.digits.Digits.{Digits}

-- ---- how many there are

most : (k n : ℕ) → length (last_digits k n) ≤ k
unfolding last_digits
most zero n = omega arith
most (suc k) n = by (ltb n 10) (most k (n / 10))
  where
    by : (t : Bool) → length (last_digits k (n / 10)) ≤ k → length (pick t ((48 + n) ∷ []) (last_digits k (n / 10) ++ ((48 + n % 10) ∷ []))) ≤ suc k
    by true h = omega arith
    by false h = simp length-append (omega arith)

pub decimal_most : (n : ℕ) → length (decimal n) ≤ 10
unfolding decimal
decimal_most n = most 10 n

-- three where it is no larger than a byte
pub decimal_byte : (n : ℕ) → n ≤ 255 → length (decimal n) ≤ 3
unfolding decimal last_digits
decimal_byte n h = by (ltb n 10) (ltb (n / 10) 10) (ltb (n / 10 / 10) 10) refl
  where
    by : (s t u : Bool) → ltb (n / 10 / 10) 10 ≡ u
        → length (pick s ((48 + n) ∷ []) (pick t ((48 + n / 10) ∷ []) (pick u ((48 + n / 10 / 10) ∷ []) (last_digits 7 (n / 10 / 10 / 10) ++ ((48 + n / 10 / 10 % 10) ∷ [])) ++ ((48 + n / 10 % 10) ∷ [])) ++ ((48 + n % 10) ∷ []))) ≤ 3
    by true t u e = omega arith
    by false true u e = omega arith
    by false false true e = omega arith
    by false false false e = absurd (let l = ltb-false (n / 10 / 10) 10 e in omega arith)

-- ---- what they stand for

value_more : (v d : ℕ) (s : List ℕ) → from_digits v (s ++ (d ∷ [])) ≡ from_digits v s * 10 + (d - 48)
unfolding from_digits
value_more v d [] = refl
value_more v d (x ∷ s) = value_more (v * 10 + (x - 48)) d s

back : (k n : ℕ) → n < 10 ^ k → from_digits 0 (last_digits k n) ≡ n
unfolding last_digits from_digits
back zero n h = let z : n < 1 = h in omega arith
back (suc k) n h =
    let p : n < 10 ^ k * 10 = rw pow-suc at h in
    let q : n / 10 < 10 ^ k = omega arith in
    by (ltb n 10) (back k (n / 10) q)
  where
    by : (t : Bool) → from_digits 0 (last_digits k (n / 10)) ≡ n / 10 → from_digits 0 (pick t ((48 + n) ∷ []) (last_digits k (n / 10) ++ ((48 + n % 10) ∷ []))) ≡ n
    by true e = omega arith
    by false e = value_more 0 (48 + n % 10) (last_digits k (n / 10)) ∙ omega arith

-- a u32 in decimal reads back
pub decimal_back : (n : ℕ) → n < 4294967296 → from_digits 0 (decimal n) ≡ n
unfolding decimal
decimal_back n h = back 10 n (omega arith)

-- ---- the loop: the digits behind `at` stand in their places, and those of the rest are still to come

pub record Spelling (n : ℕ) (bytes : List ℕ) (at rest : ℕ) : Type 0 where
  pub within : at < 10
  pub small : rest < 10 ^ suc at
  pub tail : List ℕ
  pub long : suc at + length tail ≡ 10
  pub whole : decimal n ≡ last_digits (suc at) rest ++ tail
  pub lies : bytes ≡ replicate (suc at) 0 ++ tail

pub spelling_none : (n : ℕ) → n < 4294967296 → Spelling n (replicate 10 0) 9 n
unfolding decimal
spelling_none n h =
    record { within = omega arith; small = omega arith; tail = []; long = refl; whole = sym (append-nil (last_digits 10 n)); lies = refl }

-- a digit in the last place of the zeros
last_zero : (k d : ℕ) (tail : List ℕ) → set (replicate (suc k) 0 ++ tail) k d ≡ replicate k 0 ++ d ∷ tail
last_zero zero d tail = refl
last_zero (suc k) d tail = ap {B = List ℕ} (λ l. 0 ∷ l) (last_zero k d tail)

abbrev pub made : List ℕ → ℕ → Digits
made b s = record { bytes = b; start = s }

module _ (n : ℕ) (bytes : List ℕ) where
  pub spelling_room : (at rest : ℕ) → 10 ≤ rest → Spelling n bytes at rest → 1 ≤ at
  spelling_room zero rest h s = let l = s.small in absurd (omega arith)
  spelling_room (suc a) rest h s = omega arith

  pub spelling_more : (at rest : ℕ) → 10 ≤ rest → Spelling n bytes at rest → Spelling n (set bytes at (48 + rest % 10)) (at - 1) (rest / 10)
  unfolding last_digits
  spelling_more zero rest h s = let l = s.small in absurd (omega arith)
  spelling_more (suc a) rest h s =
      let e : suc a - 1 ≡ a = omega arith in
      let p : rest < 10 ^ suc a * 10 = rw pow-suc at s.small in
      let w = s.within in
      let l = s.long in
      rw e
      (record {
        within = omega arith;
        small = omega arith;
        tail = (48 + rest % 10) ∷ s.tail;
        long = omega arith;
        whole = s.whole ∙ simp (le-ltb rest 10 h) (append_snoc (last_digits (suc a) (rest / 10)) (48 + rest % 10) s.tail);
        lies = ap (λ (x : List ℕ). set x (suc a) (48 + rest % 10)) s.lies ∙ last_zero (suc a) (48 + rest % 10) s.tail;
      })

  pub spelling_done : (at rest : ℕ) → rest < 10 → Spelling n bytes at rest → made (set bytes at (48 + rest)) at ≡ digits_of n
  unfolding last_digits
  spelling_done at rest h s =
      let w : decimal n ≡ (48 + rest) ∷ s.tail = s.whole ∙ simp (lt-ltb rest 10 h) in
      let x = ap length w in
      let l = s.long in
      let e : 10 - length (decimal n) ≡ at = omega arith in
      let q : set bytes at (48 + rest) ≡ replicate at 0 ++ decimal n = ap (λ (y : List ℕ). set y at (48 + rest)) s.lies ∙ last_zero at (48 + rest) s.tail ∙ rw w refl in
      rw (e, q)

-- ---- the digits of what the loop leaves

module _ (d : Digits) (n : ℕ) (e : d ≡ digits_of n) where
  pub digits_start : d.start ≤ 10
  digits_start = let h = decimal_most n in let s : d.start ≡ 10 - length (decimal n) = ap (λ (x : Digits). x.start) e in omega arith

  pub digits_long : 10 - d.start ≡ length (decimal n)
  digits_long = let h = decimal_most n in let s : d.start ≡ 10 - length (decimal n) = ap (λ (x : Digits). x.start) e in omega arith

  pub digits_part : part_of d.bytes d.start (10 - d.start) ≡ decimal n
  unfolding part_of
  digits_part =
      let h = decimal_most n in
      let z = length-replicate {A = ℕ} (10 - length (decimal n)) 0 in
      let l : length (replicate (10 - length (decimal n)) 0 ++ decimal n) ≡ 10 = simp (length-append, length-replicate) (omega arith) in
      rw e (simp (
        le-ltb (length (replicate (10 - length (decimal n)) 0 ++ decimal n)) (10 - length (decimal n)) (omega arith),
        le-ltb (length (replicate (10 - length (decimal n)) 0 ++ decimal n) - (10 - length (decimal n))) (10 - (10 - length (decimal n))) (omega arith),
        drop_at (replicate (10 - length (decimal n)) 0) (decimal n) (10 - length (decimal n)) z,
      )
      (take_all (10 - (10 - length (decimal n))) (decimal n) (omega arith)))
