-- Laws of what a writer answers and leaves. Assumes nothing.
use mathlib.Core.Path.{◌≡◌, refl}
use mathlib.Core.Bool.{Bool, true, false}
use mathlib.Core.List.{List, ◌++◌}
use Prim.Native.Nat.{ℕ, ◌≤◌, ◌<◌}
use native.Mathlib.Omega.{arith}
use lib.Dec.{ltb, eqb}
use lib.ListN.{length, drop, length-append, length-drop}
use borrow.Author.Tests.{lt-ltb, le-ltb, ltb-false, eq-eqb, ne_eqb, eqb-true}
use Rattle.base.specs.Pick.{pick}
use Rattle.base.specs.Numbers.{output_short}
use Rattle.base.specs.Answers.{Writing, bytes, refused, unless_refused, checked_of, bytes_or, answer_of, out_of}
use Rattle.base.specs.declared.Checked.TheVariants.{Accepted, Refused as No}
use Rattle.base.specs.declared.Written.TheVariants.{Bytes, Refused}

-- a short output: 21, and every byte as it was
pub no_room : (w o : List ℕ) → length o < length w → (answer_of (bytes w) o ≡ Refused output_short) × (out_of (bytes w) o ≡ o)
unfolding answer_of out_of
no_room w o h = (simp (lt-ltb (length o) (length w) h), simp (lt-ltb (length o) (length w) h))

-- room enough: the bytes at the front, and all beyond them as before
pub room : (w o : List ℕ) → length w ≤ length o → (answer_of (bytes w) o ≡ Bytes (length w)) × (out_of (bytes w) o ≡ w ++ drop (length w) o)
unfolding answer_of out_of
room w o h = (simp (le-ltb (length o) (length w) h), simp (le-ltb (length o) (length w) h))

-- the output keeps its length
kept : (w o : List ℕ) (t : Bool) → ltb (length o) (length w) ≡ t → length (pick t o (w ++ drop (length w) o)) ≡ length o
kept w o true e = refl
kept w o false e = let h : length w ≤ length o = ltb-false _ _ e in simp (length-append, length-drop) (omega arith)

pub out_length : (f : Writing) (o : List ℕ) → length (out_of f o) ≡ length o
unfolding out_of
out_length (bytes w) o = kept w o (ltb (length o) (length w)) refl
out_length (refused n) o = refl

-- an answer beside its bytes tells what was to be written
pub accepted_is : (f : Writing) (n : ℕ) → checked_of f ≡ Accepted → f ≡ bytes (bytes_or n f)
accepted_is (bytes w) n p = refl
accepted_is (refused k) n p = absurd (let z : ◌≡◌ {A = ℕ} 0 1 = cc in omega arith)

pub refused_is : (f : Writing) (k : ℕ) → checked_of f ≡ No k → f ≡ refused k
refused_is (bytes w) k p = absurd (let z : ◌≡◌ {A = ℕ} 0 1 = cc in omega arith)
refused_is (refused n) k p = cc

-- ---- what a chain of tests that ends in a number leads to

pub is_refused : (k n : ℕ) (f : Writing) → k ≡ n → (k ≡ 0 → ⊥) → refused k ≡ unless_refused n f
is_refused k n f e h = rw (← e) (simp (ne_eqb k 0 h))

pub not_refused : (n : ℕ) (f : Writing) → n ≡ 0 → f ≡ unless_refused n f
not_refused n f h = simp (eq-eqb n 0 h)

pub unless_bytes : (n : ℕ) (f : Writing) (w : List ℕ) → unless_refused n f ≡ bytes w → (n ≡ 0) × (f ≡ bytes w)
unless_bytes n f w e = by (eqb n 0) refl e
  where
    by : (t : Bool) → eqb n 0 ≡ t → pick t f (refused n) ≡ bytes w → (n ≡ 0) × (f ≡ bytes w)
    by true h q = (eqb-true n 0 h, q)
    by false h q = let z : ◌≡◌ {A = ℕ} 0 1 = cc in absurd (omega arith)
