-- Laws of a part at a place and length. Assumes nothing.
use Prim.Native.Nat.{ℕ, ◌+◌, ◌-◌, ◌≤◌, ◌<◌}
use native.Mathlib.Omega.{arith}
use mathlib.Core.Path.{◌≡◌, refl, sym}
use mathlib.Core.Bool.{Bool, true, false}
use mathlib.Core.List.{List, []}
use lib.Dec.{ltb, eqb}
use lib.ListN.{length, take, drop, length-drop}
use lib.Seq.{length-take-le}
use borrow.Author.Tests.{le-ltb, ltb-false, eqb-true}
use Rattle.base.specs.Pick.{pick}
use Rattle.wire.specs.Part.{reach_of, reach_number, part_of}
use Rattle.wire.specs.declared.parts.Reach.TheVariants.{Inside, Refused}

module _ (n start len : ℕ) where
  inside_by : (t : Bool) → eqb len 0 ≡ t → start + len ≤ n → reach_of n start len ≡ Inside
  unfolding reach_of
  inside_by true e h = simp e
  inside_by false e h = simp (e, le-ltb n start (omega arith), le-ltb (n - start) len (omega arith))

  -- what ends in the buffer lies in it ..
  pub inside : start + len ≤ n → reach_of n start len ≡ Inside
  inside h = inside_by (eqb len 0) refl h

  fits_by : (e a b : Bool) → eqb len 0 ≡ e → ltb n start ≡ a → ltb (n - start) len ≡ b
      → reach_number (pick e Inside (pick a (Refused 45) (pick b (Refused 45) Inside))) ≡ 0 → 0 < len → start + len ≤ n
  fits_by true a b r p q z h = let k : len ≡ 0 = eqb-true len 0 r in omega arith
  fits_by false true b r p q z h = absurd (omega arith)
  fits_by false false true r p q z h = absurd (omega arith)
  fits_by false false false r p q z h =
      let k : start ≤ n = ltb-false n start p in
      let m : len ≤ n - start = ltb-false (n - start) len q in
      omega arith

  -- .. and no other, but for no bytes
  pub fits : reach_number (reach_of n start len) ≡ 0 → 0 < len → start + len ≤ n
  unfolding reach_of
  fits z h = fits_by (eqb len 0) (ltb n start) (ltb (n - start) len) refl refl refl z h

-- no bytes are never outside
pub none_inside : (n start : ℕ) → reach_of n start 0 ≡ Inside
unfolding reach_of
none_inside n start = refl

-- the part has all bytes, or none where it is refused
module _ (s : List ℕ) (start len : ℕ) where
  long_by : (e a b : Bool) → eqb len 0 ≡ e → ltb (length s) start ≡ a → ltb (length s - start) len ≡ b
      → length (pick a [] (pick b [] (take len (drop start s))))
      ≡ pick (eqb (reach_number (pick e Inside (pick a (Refused 45) (pick b (Refused 45) Inside)))) 0) len 0
  long_by true true b r p q = sym (eqb-true len 0 r)
  long_by true false true r p q = sym (eqb-true len 0 r)
  long_by true false false r p q = let k : len ≡ 0 = eqb-true len 0 r in rw k
  long_by false true b r p q = refl
  long_by false false true r p q = refl
  long_by false false false r p q =
      let m : len ≤ length s - start = ltb-false (length s - start) len q in
      length-take-le len (drop start s) (simp length-drop m)

  pub part_length : length (part_of s start len) ≡ pick (eqb (reach_number (reach_of (length s) start len)) 0) len 0
  unfolding part_of reach_of
  part_length = long_by (eqb len 0) (ltb (length s) start) (ltb (length s - start) len) refl refl refl
