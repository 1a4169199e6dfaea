-- What `absorb` does, with the bytes that the block in hand has room for and with each block after it, and what `finish` does. Assumes
-- nothing.
use mathlib.Core.Path.{◌≡◌, refl, sym, ap, ap₂, ◌∙◌}
use mathlib.Core.Bool.{Bool, true, false}
use Prim.Native.Nat.{ℕ, ◌+◌, ◌-◌, ◌≤◌, ◌<◌, min}
use native.Mathlib.Omega.{arith}
use mathlib.Core.List.{List, [], ◌∷◌, ◌++◌, foldl, foldl-append, append_assoc, append-nil}
use lib.ListN.{length, get_or, take, drop, take-append-drop, length-append, length-drop}
use lib.Dec.{ltb}
use lib.Seq.{take_all, drop-length, length-take-le}
use borrow.Author.Tests.{lt-ltb, le-ltb, ltb-true, ltb-false}
use Rattle.base.specs.Lists.{added}
use Rattle.base.proofs.Lists.{added_none, added_one, fold_more}
use Rattle.cmac_chain.specs.Cmac.{k1, k2}
use Rattle.cmac_chain.specs.inner.State.{added_at, fill1, absorb1, finished}
use Rattle.cmac_chain.specs.declared.Mac.{Mac}

module _ (E : List ℕ → List ℕ) (x : List ℕ) where
  -- p in hand, q follows in the same block
  fill : (p q : List ℕ) → length p + length q ≤ 16
      → foldl (absorb1 E) (record { x = added x p; count = length p }) q ≡ record { x = added x (p ++ q); count = length (p ++ q) }
  unfolding absorb1
  fill p [] h = rw append-nil
  fill p (b ∷ q) h =
      let l : length p < 16 = omega arith in
      let e : length (p ++ b ∷ []) ≡ length p + 1 = length-append p (b ∷ []) in
      let k : length (p ++ b ∷ []) + length q ≤ 16 = omega arith in
      simp (lt-ltb (length p) 16 l)
      (ap₂ (λ (y : List ℕ) (c : ℕ). foldl (absorb1 E) (record { x = y; count = c }) q) (added_one x p b) (sym e)
      ∙ fill (p ++ b ∷ []) q k
      ∙ rw append_assoc)

first : (E : List ℕ → List ℕ) (m : Mac) (b : ℕ) → 16 ≤ m.count
    → absorb1 E m b ≡ record { x = added (E m.x) (b ∷ []); count = 1 }
unfolding absorb1
first E m b h =
    let p = rw (added_none (E m.x)) at (added_one (E m.x) [] b) in
    simp (le-ltb m.count 16 h) (ap (λ (y : List ℕ). record { x = y; count = 1 }) p)

-- a full block in hand, and one more, which may be short
block : (E : List ℕ → List ℕ) (m : Mac) (q : List ℕ) → 16 ≤ m.count → 0 < length q → length q ≤ 16
    → foldl (absorb1 E) m q ≡ record { x = added (E m.x) q; count = length q }
block E m [] h l k = absurd (omega arith)
block E m (b ∷ q) h l k =
    ap (λ (s : Mac). foldl (absorb1 E) s q) (first E m b h) ∙ fill E (E m.x) (b ∷ []) q (omega arith)

-- the next block q of what is left, of which the code adds 16 bytes
pub block_more : (E : List ℕ → List ℕ) (m : Mac) (q t : List ℕ) {all : Mac} {r y : List ℕ} → r ≡ q ++ t → length q ≡ min 16 (length r)
    → 0 < length r → 16 ≤ m.count → y ≡ added (E m.x) (take 16 q) → all ≡ foldl (absorb1 E) m r
    → all ≡ foldl (absorb1 E) (record { x = y; count = length q }) t
block_more E m q t {all} {r} {y} e n l h p a =
    let k : length q ≤ 16 = omega arith in
    let z : y ≡ added (E m.x) q = p ∙ ap (added (E m.x)) (take_all 16 q k) in
    a ∙ ap (foldl (absorb1 E) m) e ∙ foldl-append (absorb1 E) m q t
    ∙ ap (λ (s : Mac). foldl (absorb1 E) s t)
    (block E m q h (omega arith) k ∙ ap (λ (x : List ℕ). record { x = x; count = length q }) (sym z))

-- one byte more into the block
pub fill_more : (s : List ℕ) (j c : ℕ) (x : List ℕ) {all : Mac} → c < 16 → j < length s
    → all ≡ foldl fill1 (record { x = x; count = c }) (drop j s)
    → all ≡ foldl fill1 (record { x = added_at x c (get_or s j 0); count = c + 1 }) (drop (j + 1) s)
unfolding fill1
fill_more s j c x h l p = p ∙ fold_more fill1 s j (record { x = x; count = c }) _ l (simp (lt-ltb c 16 h))

-- a full block takes none
full : (m : Mac) (p : List ℕ) → 16 ≤ m.count → foldl fill1 m p ≡ m
unfolding fill1
full m [] h = refl
full m (b ∷ p) h = simp (le-ltb m.count 16 h) (full m p h)

-- the end, where the block is full or no byte is left
pub fill_done : (s : List ℕ) (j : ℕ) (m : Mac) → (m.count < 16 → j ≡ length s) → foldl fill1 m (drop j s) ≡ m
fill_done s j m h = by (ltb m.count 16) refl where
  by : (t : Bool) → ltb m.count 16 ≡ t → foldl fill1 m (drop j s) ≡ m
  by true e = rw (h (ltb-true _ _ e), drop-length)
  by false e = full m (drop j s) (ltb-false _ _ e)

-- what fits is absorbed as it is filled in
fits_in : (E : List ℕ → List ℕ) (m : Mac) (p : List ℕ) → length p ≤ 16 - m.count → foldl (absorb1 E) m p ≡ foldl fill1 m p
unfolding absorb1 fill1
fits_in E m [] h = refl
fits_in E m (b ∷ p) h =
    let l : m.count < 16 = omega arith in
    simp (lt-ltb m.count 16 l) (fits_in E (record { x = added_at m.x m.count b; count = m.count + 1 }) p (omega arith))

filled_count : (m : Mac) (p : List ℕ) → length p ≤ 16 - m.count → (foldl fill1 m p).count ≡ m.count + length p
unfolding fill1
filled_count m [] h = omega arith
filled_count m (b ∷ p) h =
    let l : m.count < 16 = omega arith in
    simp (lt-ltb m.count 16 l) (filled_count (record { x = added_at m.x m.count b; count = m.count + 1 }) p (omega arith) ∙ omega arith)

-- the first k bytes of s, as many as the block in hand has room for; if more follow, it is full then
module _ (m : Mac) (s : List ℕ) (k : ℕ) (e : k ≡ min (length s) (16 - m.count)) where
  head_long : length (take k s) ≡ k
  head_long = length-take-le k s (omega arith)

  pub head_in : (E : List ℕ → List ℕ) → foldl (absorb1 E) m s ≡ foldl (absorb1 E) (foldl fill1 m (take k s)) (drop k s)
  head_in E =
      let n = head_long in
      ap (foldl (absorb1 E) m) (sym (take-append-drop k s)) ∙ foldl-append (absorb1 E) m (take k s) (drop k s)
      ∙ ap (λ (a : Mac). foldl (absorb1 E) a (drop k s)) (fits_in E m (take k s) (omega arith))

  pub head_full : 0 < length (drop k s) → 16 ≤ (foldl fill1 m (take k s)).count
  head_full h =
      let n = head_long in
      let d : length (drop k s) ≡ length s - k = length-drop k s in
      let c : (foldl fill1 m (take k s)).count ≡ m.count + length (take k s) = filled_count m (take k s) (omega arith) in
      omega arith

-- what is left of s from i on, as a part of it
pub rest_is : (s : List ℕ) (i : ℕ) → take (length s - i) (drop i s) ≡ drop i s
rest_is s i = take_all (length s - i) (drop i s) (rw length-drop (omega arith))

-- the front of s, as far as there is one
pub take_least : (n : ℕ) (s : List ℕ) (i : ℕ) → i ≡ min (length s) n → take i s ≡ take n s
take_least n s i e = by (ltb (length s) n) refl where
  by : (t : Bool) → ltb (length s) n ≡ t → take i s ≡ take n s
  by true h =
      let l : length s < n = ltb-true _ _ h in
      take_all i s (omega arith) ∙ sym (take_all n s (omega arith))
  by false h =
      let l : n ≤ length s = ltb-false _ _ h in
      let f : i ≡ n = omega arith in
      rw f

-- the end, with a block in hand that is short, and with a full one; k is the subkey, of which the code adds 16 bytes
pub finish_short : (E : List ℕ → List ℕ) (m : Mac) {k a r : List ℕ} → m.count < 16 → r ≡ E a
    → a ≡ added (added_at m.x m.count 0x80) (take 16 k) → length k ≡ 16 → k ≡ k2 E → r ≡ finished E m
unfolding finished
finish_short E m {k} h p q n e =
    simp (lt-ltb m.count 16 h) (p ∙ ap E (q ∙ rw (take_all 16 k (omega arith), e)))

pub finish_full : (E : List ℕ → List ℕ) (m : Mac) {k a r : List ℕ} → 16 ≤ m.count → r ≡ E a
    → a ≡ added m.x (take 16 k) → length k ≡ 16 → k ≡ k1 E → r ≡ finished E m
unfolding finished
finish_full E m {k} h p q n e =
    simp (le-ltb m.count 16 h) (p ∙ ap E (q ∙ rw (take_all 16 k (omega arith), e)))
