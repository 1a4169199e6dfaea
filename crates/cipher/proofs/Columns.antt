-- Four columns, and what the rounds of the cipher keep of them. Assumes nothing.
use mathlib.Core.Path.{◌≡◌, refl, ap₂, ◌∙◌}
use Prim.Native.Nat.{ℕ, ◌+◌}
use mathlib.Core.List.{List}
use native.Mathlib.Numerals.{add-one}
use Rattle.fips197.specs.Field.{xtime}
use Rattle.fips197.specs.Aes.{rcon}
use Rattle.cipher.specs.declared.Cols.{Cols}
use Rattle.cipher.specs.inner.Words.{loaded, first_key, next_cols, key_cols, keyed, stepped, steps, last_stepped, bytes_of, enciphered}

made : ℕ → ℕ → ℕ → ℕ → Cols
made a b c d = record { a = a; b = b; c = c; d = d }

-- two of them are equal by their columns
pub cols : {a b c d a' b' c' d' : ℕ} → a ≡ a' → b ≡ b' → c ≡ c' → d ≡ d'
    → ◌≡◌ {A = Cols} (record { a = a; b = b; c = c; d = d }) (record { a = a'; b = b'; c = c'; d = d' })
unfolding made
cols {a} {b} {c} {d} {a'} {b'} {c'} {d'} p q r s = ap₂ (λ (x y : ℕ). made x y c d) p q ∙ ap₂ (λ (x y : ℕ). made a' b' x y) r s

-- after i rounds from s₀: the state, the key of the coming round, and the constant of the one after
pub record Rounds (e : List ℕ) (s₀ s k : Cols) (v i : ℕ) : Type 0 where
  pub state : s ≡ steps e i s₀
  pub key : k ≡ key_cols e (i + 1)
  pub constant : v ≡ rcon (i + 1)

module _ (e : List ℕ) where
  pub rounds_none : {f k : Cols} (s : Cols) → f ≡ first_key e → k ≡ next_cols e 1 f → Rounds e s s k 2 0
  unfolding key_cols rcon steps xtime
  rounds_none s p q = record { state = refl; key = cc; constant = refl }

  pub rounds_more : {s₀ s k t n : Cols} {v w : ℕ} (i : ℕ) → t ≡ stepped e k s → n ≡ next_cols e v k → w ≡ xtime v → Rounds e s₀ s k v i → Rounds e s₀ t n w (i + 1)
  unfolding key_cols rcon steps
  rounds_more i p q r h =
      let key = rw add-one at h.key in
      let constant = rw add-one at h.constant in
      let state = h.state in
      record { state = rw add-one (cc); key = rw add-one (cc); constant = rw add-one (cc) }

  -- the last round, with the tenth key, after nine
  pub ended : (block : List ℕ) {l f s₀ s k t : Cols} {v i : ℕ} {r : List ℕ} → i ≡ 9 → l ≡ loaded block → f ≡ first_key e → s₀ ≡ keyed f l → Rounds e s₀ s k v i
      → t ≡ last_stepped e k s → r ≡ bytes_of t → r ≡ enciphered e block
  unfolding enciphered key_cols
  ended block hi hl hf hs h ht hr =
      let key = h.key in
      let state = h.state in
      cc
