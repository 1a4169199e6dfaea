-- What is left to absorb gives the same: the one invariant of the loops, and its steps; a head and its value; a heartbeat's entries.
-- Assumes nothing.
use Prim.Native.Nat.{ℕ, suc, ◌+◌, ◌*◌, ◌/◌, ◌%◌, ◌<◌, ◌≤◌}
use native.Mathlib.Omega.{arith}
use mathlib.Core.Bool.{Bool, true}
use mathlib.Core.Path.{◌≡◌, refl, sym, ap, subst, ◌∙◌}
use mathlib.Core.List.{List, [], ◌∷◌, ◌++◌, foldl, foldl-append}
use lib.Arith.{digits_mod}
use lib.ListN.{length, get_or, drop}
use lib.Seq.{drop-cons}
use Rattle.base.specs.Lists.{Bytes, imap}
use Rattle.base.proofs.Bytes.{none_lt, append_lt}
use Rattle.base.proofs.Lists.{◌◂◌, imap_length}
use Rattle.cmac_chain.specs.inner.State.{absorb1}
use Rattle.cmac_chain.specs.declared.Mac.{Mac}
use Rattle.kept_items.specs.Kept.{headed, fixed, item_bytes}

pub record Left (E : List ℕ → List ℕ) (m : Mac) (all : List ℕ) (a : Mac) (rest : List ℕ) : Type 0 where
  pub same : foldl (absorb1 E) m all ≡ foldl (absorb1 E) a rest

module _ (E : List ℕ → List ℕ) (m : Mac) (all : List ℕ) (a : Mac) (rest : List ℕ) (f : Left E m all a rest) where
  pub left_more : (w r : List ℕ) (b : Mac) → rest ≡ w ++ r → b ≡ foldl (absorb1 E) a w → Left E m all b r
  left_more w r b e q =
      record { same = f.same ∙ ap (foldl (absorb1 E) a) e ∙ foldl-append (absorb1 E) a w r ∙ ap (λ (x : Mac). foldl (absorb1 E) x r) (sym q) }

  pub left_same : (r : List ℕ) → rest ≡ r → Left E m all a r
  left_same r e = record { same = f.same ∙ ap (foldl (absorb1 E) a) e }

  pub left_last : (w : List ℕ) (b : Mac) → rest ≡ w → b ≡ foldl (absorb1 E) a w → b ≡ foldl (absorb1 E) m all
  left_last w b e q = q ∙ sym (f.same ∙ ap (foldl (absorb1 E) a) e)

  pub left_none : rest ≡ [] → a ≡ foldl (absorb1 E) m all
  left_none e = left_last [] a e refl

-- and that all is bytes, if what is left is
pub record Whole (E : List ℕ → List ℕ) (m : Mac) (all : List ℕ) (a : Mac) (rest : List ℕ) : Type 0 where
  pub left : Left E m all a rest
  pub small : Bytes rest → Bytes all

module _ (E : List ℕ → List ℕ) (m : Mac) (all : List ℕ) (a : Mac) (rest : List ℕ) (f : Whole E m all a rest) where
  pub whole_more : (w r : List ℕ) (b : Mac) → rest ≡ w ++ r → b ≡ foldl (absorb1 E) a w → Bytes w → Whole E m all b r
  whole_more w r b e q h =
      record { left = left_more E m all a rest f.left w r b e q; small = λ g. f.small (subst Bytes (sym e) (append_lt w r h g)) }

  pub whole_none : rest ≡ [] → (a ≡ foldl (absorb1 E) m all) × Bytes all
  whole_none e = (left_none E m all a rest f.left e, f.small (subst Bytes (sym e) none_lt))

-- ---- a head and its value

module _ (E : List ℕ → List ℕ) (m a : Mac) (t n : ℕ) (q : a ≡ foldl (absorb1 E) m (t ∷ n ∷ [])) (r : Mac) where
  pub headed_more : (w : List ℕ) → n ≡ length w % 256 → r ≡ foldl (absorb1 E) a w → r ≡ foldl (absorb1 E) m (headed t w)
  headed_more w e z = z ∙ ap (λ (x : Mac). foldl (absorb1 E) x w) q ∙ ap (λ (k : ℕ). foldl (absorb1 E) m (t ∷ k ∷ w)) e

  pub item_more : (beat : Bool) (v w : List ℕ) → n ≡ length v % 256 → r ≡ foldl (absorb1 E) a w → w ≡ imap (fixed beat) 0 v
      → r ≡ foldl (absorb1 E) m (item_bytes beat t v)
  unfolding item_bytes
  item_more beat v w e z u =
      headed_more (imap (fixed beat) 0 v) (e ∙ ap (λ (k : ℕ). k % 256) (sym (imap_length (fixed beat) 0 v))) (z ∙ ap (foldl (absorb1 E) a) u)

-- the length byte of n entries, by the low byte of n alone
pub low_six : (n : ℕ) → 6 * (n % 256) % 256 ≡ 6 * n % 256
low_six n =
    let q : ℕ = 6 * (n / 256) + 6 * (n % 256) / 256 in
    let e : 6 * n ≡ q * 256 + 6 * (n % 256) % 256 = omega arith in
    let r : 6 * (n % 256) % 256 < 256 = omega arith in
    sym (ap (λ (x : ℕ). x % 256) e ∙ digits_mod q r)

-- ---- a heartbeat's entries

-- six places on, the same byte of an entry
fixed_on : (b : Bool) (i x : ℕ) → fixed b (suc (suc (suc (suc (suc (suc i)))))) x ≡ fixed b i x
unfolding fixed
fixed_on b i x = let h : suc (suc (suc (suc (suc (suc i))))) % 6 ≡ i % 6 = omega arith in rw h

value_on : (b : Bool) (i : ℕ) (v : List ℕ) → imap (fixed b) (suc (suc (suc (suc (suc (suc i)))))) v ≡ imap (fixed b) i v
value_on b i [] = refl
value_on b i (x ∷ v) = fixed_on b i x ◂ value_on b (suc i) v

six_of_lem : (a b c d e f : ℕ) (v : List ℕ) → imap (fixed true) 0 (a ∷ b ∷ c ∷ d ∷ e ∷ f ∷ v) ≡ a ∷ b ∷ c ∷ d ∷ e ∷ f % 64 ∷ imap (fixed true) 0 v
unfolding fixed
six_of_lem a b c d e f v = ap (λ (w : List ℕ). a ∷ b ∷ c ∷ d ∷ e ∷ f % 64 ∷ w) (value_on true 0 v)

-- the one at a place, as it is written
abbrev pub six_from : List ℕ → ℕ → List ℕ
six_from v i = get_or v i 0 ∷ get_or v (i + 1) 0 ∷ get_or v (i + 2) 0 ∷ get_or v (i + 3) 0 ∷ get_or v (i + 4) 0 ∷ get_or v (i + 5) 0 % 64 ∷ []

pub entry_ahead : (v : List ℕ) (i : ℕ) → i + 6 ≤ length v → imap (fixed true) 0 (drop i v) ≡ six_from v i ++ imap (fixed true) 0 (drop (i + 6) v)
entry_ahead v i h = ap (imap (fixed true) 0) six ∙ six_of_lem _ _ _ _ _ _ (drop (i + 6) v)
  where
    -- a byte, and the place after it
    byte : (k n : ℕ) → k + 1 ≡ n → n ≤ length v → drop k v ≡ get_or v k 0 ∷ drop n v
    byte k n e l = let z : suc k ≡ n = omega arith in drop-cons v k 0 (omega arith) ∙ ap (λ (j : ℕ). get_or v k 0 ∷ drop j v) z

    six : drop i v ≡ get_or v i 0 ∷ get_or v (i + 1) 0 ∷ get_or v (i + 2) 0 ∷ get_or v (i + 3) 0 ∷ get_or v (i + 4) 0 ∷ get_or v (i + 5) 0 ∷ drop (i + 6) v
    six =
        byte i (i + 1) refl (omega arith)
        ∙ (refl ◂ (byte (i + 1) (i + 2) (omega arith) (omega arith)
        ∙ (refl ◂ (byte (i + 2) (i + 3) (omega arith) (omega arith)
        ∙ (refl ◂ (byte (i + 3) (i + 4) (omega arith) (omega arith)
        ∙ (refl ◂ (byte (i + 4) (i + 5) (omega arith) (omega arith)
        ∙ (refl ◂ byte (i + 5) (i + 6) (omega arith) (omega arith))))))))))

-- less than an entry has no sixth byte
pub left_over : (v : List ℕ) → length v < 6 → imap (fixed true) 0 v ≡ v
unfolding fixed
left_over [] h = refl
left_over (a ∷ []) h = refl
left_over (a ∷ b ∷ []) h = refl
left_over (a ∷ b ∷ c ∷ []) h = refl
left_over (a ∷ b ∷ c ∷ d ∷ []) h = refl
left_over (a ∷ b ∷ c ∷ d ∷ e ∷ []) h = refl
left_over (a ∷ b ∷ c ∷ d ∷ e ∷ f ∷ v) h = absurd (omega arith)
