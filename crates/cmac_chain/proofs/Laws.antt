-- For any block cipher and any message, however it is split: finishing what was absorbed gives RFC 4493's tag. Two ciphers that agree on
-- blocks give the same tag. Assumes nothing.
use mathlib.Core.Path.{◌≡◌, refl, sym, ap, ap₂, ◌∙◌}
use mathlib.Core.Bool.{Bool, true, false}
use Prim.Native.Nat.{ℕ, zero, suc, ◌+◌, ◌-◌, ◌*◌, ◌/◌, ◌≤◌, ◌<◌}
use native.Mathlib.Numerals.{add-one}
use native.Mathlib.Omega.{arith}
use mathlib.Core.List.{List, [], ◌∷◌, ◌++◌, foldl, foldl-append, flatten}
use lib.Dec.{ltb, eqb}
use lib.ListN.{length, get_or, take, drop, replicate, length-append, length-drop, length-replicate}
use lib.Seq.{take-suc, take-length, take_all, length-take-le, get_or-drop}
use borrow.Author.Tests.{lt-ltb, eq-eqb, ne_eqb, ltb-true, ltb-false}
use Rattle.base.specs.Pick.{pick}
use Rattle.base.specs.Lists.{Bytes, added}
use Rattle.base.specs.Blocks.{Block, Agree}
use Rattle.base.proofs.Bytes.{cons_lt, append_lt, take_lt, drop_lt, zeros_lt}
use Rattle.base.proofs.Lists.{◌◂◌, from_lt, added_none, added_length, added_lt, added_one, added_zeros, added_assoc}
use Rattle.cmac_chain.specs.Cmac.{zeros, rb, shl, shifted, doubled, k1, k2, block_at, padded, last_block, chain, blocks, tag}
use Rattle.cmac_chain.specs.inner.State.{added_at, begun, absorb1, finished}
use Rattle.cmac_chain.specs.declared.Mac.{Mac}

-- the padding's zeros change nothing
added_pad : (x p : List ℕ) (b n : ℕ) → added x (p ++ b ∷ []) ≡ added x (p ++ b ∷ replicate n 0)
unfolding added
added_pad [] p b n = refl
added_pad (a ∷ x) [] b n = refl ◂ (added_none x ∙ sym (added_zeros x n))
added_pad (a ∷ x) (d ∷ p) b n = refl ◂ added_pad x p b n

-- const_Rb changes the last byte only
pub added_rb : (x : List ℕ) → added_at x 15 0x87 ≡ added x rb
unfolding rb
added_rb x = rw (added_zeros x 15) at (added_one x (replicate 15 0) 0x87)

-- the subkeys are 16 bytes long
doubled_length : (l : List ℕ) → length (doubled l) ≡ 16
unfolding doubled shifted
doubled_length l = by (ltb (get_or l 0 0) 128) where
  by : (t : Bool) → length (pick t (shifted l) (added (shifted l) rb)) ≡ 16
  by true = refl
  by false = added_length (shifted l) rb

-- finishing with the bytes B in hand
module _ (E : List ℕ → List ℕ) (c B : List ℕ) (h : length B ≤ 16) where
  finish_by : (t : Bool) → ltb (length B) 16 ≡ t
      → finished E (record { x = added c B; count = length B }) ≡ E (added c (last_block E B))
  unfolding finished last_block padded k1 k2
  finish_by true e =
      let l : length B < 16 = ltb-true _ _ e in
      let u : length (padded B) ≡ 16 = simp (length-append, length-replicate) (omega arith) in
      let v : length (k2 E) ≡ 16 = doubled_length (k1 E) in
      let p = added_one c B 128 ∙ added_pad c B 128 (15 - length B) in
      simp (e, ne_eqb (length B) 16 (λ z. omega arith))
      (ap (λ (y : List ℕ). E (added y (k2 E))) p ∙ ap E (added_assoc c (padded B) (k2 E) (omega arith)))
  finish_by false e =
      let l : 16 ≤ length B = ltb-false _ _ e in
      let f : length B ≡ 16 = omega arith in
      let v : length (k1 E) ≡ 16 = doubled_length (E zeros) in
      simp (e, eq-eqb (length B) 16 f) (ap E (added_assoc c B (k1 E) (omega arith)))

  finish_last : finished E (record { x = added c B; count = length B }) ≡ E (added c (last_block E B))
  finish_last = finish_by (ltb (length B) 16) refl

-- the index of the last block
blocks_at : (n : ℕ) → blocks n - 1 ≡ (n - 1) / 16
blocks_at zero = refl
blocks_at (suc n) = simp (ne_eqb (suc n) 0 (λ z. omega arith)) (omega arith)

-- the state after j bytes of m: block (j - 1) / 16 is in hand
module _ (E : List ℕ → List ℕ) (m : List ℕ) where
  -- n bytes of block k are in hand
  abbrev inside : ℕ → ℕ → Mac
  inside k n = record { x = added (chain E m k) (take n (drop (16 * k) m)); count = n }

  abbrev at : ℕ → ℕ
  at j = (j - 1) / 16

  abbrev after : ℕ → Mac
  after j = inside (at j) (j - 16 * at j)

  more : (k n : ℕ) → n < 16 → 16 * k + n < length m → absorb1 E (inside k n) (get_or m (16 * k + n) 0) ≡ inside k (n + 1)
  unfolding absorb1
  more k n h l =
      let D = drop (16 * k) m in
      let r : n < length D = rw length-drop (omega arith) in
      let q : length (take n D) ≡ n = length-take-le n D (omega arith) in
      let b : get_or D n 0 ≡ get_or m (16 * k + n) 0 = get_or-drop (16 * k) m n 0 in
      let s : take (n + 1) D ≡ take n D ++ get_or m (16 * k + n) 0 ∷ [] = rw (add-one n) (take-suc D n 0 r ∙ rw b) in
      let p = added_one (chain E m k) (take n D) (get_or m (16 * k + n) 0) in
      let p' = rw q at p in
      simp (lt-ltb n 16 h) (rw s (ap (λ (y : List ℕ). record { x = y; count = n + 1 }) p'))

  next : (k : ℕ) → 16 * k + 16 < length m → absorb1 E (inside k 16) (get_or m (16 * k + 16) 0) ≡ inside (suc k) 1
  unfolding absorb1 chain block_at
  next k l =
      let D = drop (16 * suc k) m in
      let r : 0 < length D = rw length-drop (omega arith) in
      let b : get_or D 0 0 ≡ get_or m (16 * k + 16) 0 = get_or-drop (16 * suc k) m 0 0 ∙ ap (λ (i : ℕ). get_or m i 0) (omega arith) in
      let s : take 1 D ≡ get_or m (16 * k + 16) 0 ∷ [] = take-suc D 0 0 r ∙ rw b in
      let X = E (added (chain E m k) (take 16 (drop (16 * k) m))) in
      let p = added_one X [] (get_or m (16 * k + 16) 0) in
      let p' = rw (added_none X) at p in
      rw s (ap (λ (y : List ℕ). record { x = y; count = 1 }) p')

  step_by : (j : ℕ) (t : Bool) → ltb (j - 16 * at j) 16 ≡ t → j < length m → absorb1 E (after j) (get_or m j 0) ≡ after (suc j)
  step_by j true e h =
      let n = j - 16 * at j in
      let l : n < 16 = ltb-true n 16 e in
      let i : j ≡ 16 * at j + n = omega arith in
      let u : at (suc j) ≡ at j = omega arith in
      let v : suc j - 16 * at (suc j) ≡ n + 1 = omega arith in
      ap (λ (k : ℕ). absorb1 E (after j) (get_or m k 0)) i ∙ more (at j) n l (omega arith) ∙ sym (ap₂ inside u v)
  step_by j false e h =
      let n = j - 16 * at j in
      let l : 16 ≤ n = ltb-false n 16 e in
      let f : n ≡ 16 = omega arith in
      let i : j ≡ 16 * at j + 16 = omega arith in
      let u : at (suc j) ≡ suc (at j) = omega arith in
      let v : suc j - 16 * at (suc j) ≡ 1 = omega arith in
      ap₂ (λ (k c : ℕ). absorb1 E (inside (at j) c) (get_or m k 0)) i f ∙ next (at j) (omega arith) ∙ sym (ap₂ inside u v)

  absorbed : (j : ℕ) → j ≤ length m → foldl (absorb1 E) begun (take j m) ≡ after j
  unfolding begun chain
  absorbed zero h = ap (λ (y : List ℕ). record { x = y; count = 0 }) (sym (added_none zeros))
  absorbed (suc j) h =
      rw (take-suc m j 0 h)
      (foldl-append (absorb1 E) begun (take j m) (get_or m j 0 ∷ [])
      ∙ ap (λ (s : Mac). absorb1 E s (get_or m j 0)) (absorbed j (omega arith))
      ∙ step_by j (ltb (j - 16 * at j) 16) refl h)

  whole : foldl (absorb1 E) begun m ≡ after (length m)
  whole = rw take-length at (absorbed (length m) (omega arith))

  -- what is in hand at the end is the RFC's last block
  module _ (k n : ℕ) (len : length m ≡ 16 * k + n) (le : n ≤ 16) where
    last_of : block_at m k ≡ take n (drop (16 * k) m)
    unfolding block_at
    last_of =
        let D = drop (16 * k) m in
        let d : length D ≡ n = rw length-drop (omega arith) in
        take_all 16 D (omega arith) ∙ sym (take_all n D (omega arith))

    last_length : length (block_at m k) ≡ n
    unfolding block_at
    last_length =
        let D = drop (16 * k) m in
        let d : length D ≡ n = rw length-drop (omega arith) in
        ap length (take_all 16 D (omega arith)) ∙ d

    as_block : inside k n ≡ record { x = added (chain E m k) (block_at m k); count = length (block_at m k) }
    as_block = rw (last_length, last_of)

  pub finish_tag : finished E (foldl (absorb1 E) begun m) ≡ tag E m
  unfolding tag
  finish_tag =
      let k = at (length m) in
      let n = length m - 16 * k in
      let e : length m ≡ 16 * k + n = omega arith in
      let l : n ≤ 16 = omega arith in
      let b : length (block_at m k) ≤ 16 = rw (last_length k n e l) l in
      rw (blocks_at (length m)) (ap (finished E) (whole ∙ as_block k n e l) ∙ finish_last E (chain E m k) (block_at m k) b)

-- pieces absorbed one after another are absorbed as one
joined : (E : List ℕ → List ℕ) (a : Mac) (ps : List (List ℕ))
    → foldl (foldl (absorb1 E)) a ps ≡ foldl (absorb1 E) a (flatten ps)
unfolding flatten
joined E a [] = refl
joined E a (p ∷ ps) = joined E (foldl (absorb1 E) a p) ps ∙ sym (foldl-append (absorb1 E) a p (flatten ps))

-- any split of a message gives RFC 4493's tag of the whole
pub pieces : (E : List ℕ → List ℕ) (ps : List (List ℕ)) → finished E (foldl (foldl (absorb1 E)) begun ps) ≡ tag E (flatten ps)
pieces E ps = ap (finished E) (joined E begun ps) ∙ finish_tag E (flatten ps)

-- bytes
block_at_lt : (m : List ℕ) (i : ℕ) → Bytes m → Bytes (block_at m i)
unfolding block_at
block_at_lt m i h = take_lt 16 (drop (16 * i) m) (drop_lt (16 * i) m h)

padded_lt : (p : List ℕ) → Bytes p → Bytes (padded p)
unfolding padded
padded_lt p h = append_lt p _ h (cons_lt 128 (replicate (15 - length p) 0) (omega arith) (zeros_lt (15 - length p)))

shl_lt : (a b : ℕ) → b < 256 → shl a b < 256
shl_lt a b h = omega arith

shifted_lt : (l : List ℕ) → Bytes l → Bytes (shifted l)
unfolding shifted
shifted_lt l h = from_lt 16 0 _ (λ k. shl_lt (get_or l k 0) (get_or l (suc k) 0) (h (suc k)))

doubled_lt : (l : List ℕ) → Bytes l → Bytes (doubled l)
unfolding doubled rb
doubled_lt l h = by (ltb (get_or l 0 0) 128) where
  by : (t : Bool) → Bytes (pick t (shifted l) (added (shifted l) rb))
  by true = shifted_lt l h
  by false = added_lt (shifted l) rb (shifted_lt l h) (append_lt (replicate 15 0) (135 ∷ []) (zeros_lt 15) (cons_lt 135 [] (omega arith) (zeros_lt 0)))

-- blocks
zeros_block : Block zeros
unfolding zeros
zeros_block = record { long = refl; small = zeros_lt 16 }

added_block : (x p : List ℕ) → Block x → Bytes p → Block (added x p)
added_block x p h b = record { long = added_length x p ∙ h.long; small = added_lt x p h.small b }

module _ (E F : List ℕ → List ℕ) (A : Agree E F) where
  k1_same : k1 E ≡ k1 F
  unfolding k1
  k1_same = ap doubled (A.same zeros zeros_block)

  k1_lt : Bytes (k1 E)
  unfolding k1
  k1_lt = doubled_lt (E zeros) (A.block zeros zeros_block).small

  k2_lt : Bytes (k2 E)
  unfolding k2
  k2_lt = doubled_lt (k1 E) k1_lt

  last_same : (p : List ℕ) → last_block E p ≡ last_block F p
  unfolding last_block k2
  last_same p = rw k1_same

  last_lt : (p : List ℕ) → Bytes p → Bytes (last_block E p)
  unfolding last_block
  last_lt p h = by (eqb (length p) 16) where
    by : (t : Bool) → Bytes (pick t (added p (k1 E)) (added (padded p) (k2 E)))
    by true = added_lt p (k1 E) h k1_lt
    by false = added_lt (padded p) (k2 E) (padded_lt p h) k2_lt

  module _ (m : List ℕ) (h : Bytes m) where
    chain_block : (i : ℕ) → Block (chain E m i)
    unfolding chain
    chain_block zero = zeros_block
    chain_block (suc i) = A.block _ (added_block (chain E m i) (block_at m i) (chain_block i) (block_at_lt m i h))

    chain_same : (i : ℕ) → chain E m i ≡ chain F m i
    unfolding chain
    chain_same zero = refl
    chain_same (suc i) =
        A.same _ (added_block (chain E m i) (block_at m i) (chain_block i) (block_at_lt m i h))
        ∙ ap (λ (x : List ℕ). F (added x (block_at m i))) (chain_same i)

    -- the last block's input to the cipher
    ended : (i : ℕ) → Block (added (chain E m i) (last_block E (block_at m i)))
    ended i = added_block (chain E m i) _ (chain_block i) (last_lt (block_at m i) (block_at_lt m i h))

    pub tag_same : tag E m ≡ tag F m
    unfolding tag
    tag_same =
        let i = blocks (length m) - 1 in
        A.same _ (ended i) ∙ ap₂ (λ (x y : List ℕ). F (added x y)) (chain_same i) (last_same (block_at m i))

    pub tag_block : Block (tag E m)
    unfolding tag
    tag_block = A.block _ (ended (blocks (length m) - 1))
