-- A record of numbers added to a cache in words, a test at a time. Assumes nothing.
use Prim.Native.Nat.{ℕ, ◌%◌, ◌≤◌, ◌<◌}
use native.Mathlib.Omega.{arith}
use mathlib.Core.Path.{◌≡◌, refl, sym, ap, ◌∙◌}
use mathlib.Core.Bool.{true, false}
use mathlib.Core.List.{List, [], ◌∷◌}
use lib.ListN.{get_or}
use borrow.Author.Tests.{lt-ltb, le-ltb}
use Rattle.base.specs.Numbers.{type_large}
use Rattle.base.specs.Answers.{number_in, left_by}
use Rattle.fields.specs.Limits.{timestamp_most, relay_id_most}
use Rattle.fields.specs.Header.{type_read, code_of}
use Rattle.fields.specs.declared.header.PayloadType.{PayloadType}
use Rattle.fields.specs.declared.header.TypeRead.{TypeRead}
use Rattle.fields.specs.declared.header.TypeRead.TheVariants.{Kind, Refused as NoKind}
use Rattle.fields.proofs.Laws.Header.{type_of_two_bits}
use Rattle.numbers.specs.Numbers.{bit, at_most}
use Rattle.numbers.proofs.Laws.{no_type}
use Rattle.cache.specs.Cache.{pack_of, add_says}
use Rattle.cache.specs.declared.ring.CacheAnswer.{CacheAnswer}
use Rattle.cache.specs.declared.ring.CacheAnswer.TheVariants.{Refused}
use Rattle.cache_words.specs.inner.Packed.{adds_answer, adds_words}
use Rattle.mesh_c.specs.Face.{record_wide, record_from, answer_by, words_by, cache_answer, cache_words}
use Rattle.mesh_c.specs.inner.Known.{head_of}

-- what `mesh_cache_add` answers and leaves: a number, the words and the flag
abbrev Added : List ℕ → List ℕ → ℕ → CacheAnswer → List ℕ → Type 0
Added w rs old a v =
    (number_in (add_says a) ≡ number_in (add_says (cache_answer w rs)))
    × ((v ≡ cache_words w rs) × (left_by bit old (add_says a) ≡ left_by bit old (add_says (cache_answer w rs))))

same : (w rs : List ℕ) (old : ℕ) (a : CacheAnswer) (v : List ℕ) → a ≡ cache_answer w rs → v ≡ cache_words w rs → Added w rs old a v
same w rs old a v p q = (ap (λ (x : CacheAnswer). number_in (add_says x)) p, (q, ap (λ (x : CacheAnswer). left_by bit old (add_says x)) p))

module _ (w rs : List ℕ) (old : ℕ) where
  added_wide : record_wide rs ≡ true → Added w rs old (Refused type_large) w
  unfolding cache_answer cache_words
  added_wide h = same w rs old (Refused type_large) w (rw h refl) (rw h refl)

  pub wide_id : 65535 < get_or rs 1 0 → Added w rs old (Refused type_large) w
  unfolding record_wide
  wide_id h = added_wide (simp (lt-ltb 65535 (get_or rs 1 0) h))

  module _ (a : get_or rs 1 0 ≤ 65535) where
    pub wide_time : timestamp_most < get_or rs 2 0 → Added w rs old (Refused type_large) w
    unfolding record_wide
    wide_time h = added_wide (simp (le-ltb 65535 (get_or rs 1 0) a, lt-ltb timestamp_most (get_or rs 2 0) h))

    module _ (b : get_or rs 2 0 ≤ timestamp_most) where
      pub wide_relay : relay_id_most < get_or rs 3 0 → Added w rs old (Refused type_large) w
      unfolding record_wide
      wide_relay h = added_wide (simp (le-ltb 65535 (get_or rs 1 0) a, le-ltb timestamp_most (get_or rs 2 0) b, lt-ltb relay_id_most (get_or rs 3 0) h))

      module _ (c : get_or rs 3 0 ≤ relay_id_most) where
        narrow : record_wide rs ≡ false
        unfolding record_wide
        narrow = simp (le-ltb 65535 (get_or rs 1 0) a, le-ltb timestamp_most (get_or rs 2 0) b, le-ltb relay_id_most (get_or rs 3 0) c)

        by_type : (t : TypeRead) → type_read (get_or rs 0 0) ≡ t → (cache_answer w rs ≡ answer_by w rs t) × (cache_words w rs ≡ words_by w rs t)
        unfolding cache_answer cache_words
        by_type t e = rw (narrow, e) (refl, refl)

        pub no_such_type : 3 < get_or rs 0 0 → Added w rs old (Refused type_large) w
        no_such_type h =
            let t = by_type (NoKind type_large) (no_type (get_or rs 0 0) h) in
            same w rs old (Refused type_large) w (sym t.0) (sym t.1)

        module _ (d : get_or rs 0 0 ≤ 3) where
          two : (t : PayloadType) × (type_read (get_or rs 0 0) ≡ Kind t) × (code_of t ≡ get_or rs 0 0)
          two = type_of_two_bits (get_or rs 0 0) (omega arith)

          -- the record's three words
          packed : pack_of (record_from rs two.0) ≡ head_of (get_or rs 0 0) (get_or rs 1 0) ∷ at_most 4294967295 (get_or rs 2 0) ∷ at_most 4294967295 (get_or rs 3 0) ∷ []
          unfolding pack_of at_most
          packed =
              let m : get_or rs 0 0 % 4 ≡ get_or rs 0 0 = omega arith in
              let n : get_or rs 1 0 % 65536 ≡ get_or rs 1 0 = omega arith in
              rw (two.2, le-ltb 65535 (get_or rs 1 0) a, m, n) refl

          pub added : (head time relay : ℕ) → head ≡ head_of (get_or rs 0 0) (get_or rs 1 0) → time ≡ at_most 4294967295 (get_or rs 2 0)
              → relay ≡ at_most 4294967295 (get_or rs 3 0) → (x : CacheAnswer) (v : List ℕ)
              → (x ≡ adds_answer w (head ∷ time ∷ relay ∷ [])) × (v ≡ adds_words w (head ∷ time ∷ relay ∷ [])) → Added w rs old x v
          added head time relay p q r x v s =
              let t = by_type (Kind two.0) two.1 in
              let e : pack_of (record_from rs two.0) ≡ head ∷ time ∷ relay ∷ [] = rw (p, q, r) packed in
              same w rs old x v (s.0 ∙ ap (adds_answer w) (sym e) ∙ sym t.0) (s.1 ∙ ap (adds_words w) (sym e) ∙ sym t.1)
