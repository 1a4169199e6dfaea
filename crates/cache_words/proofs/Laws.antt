-- The cache in words answers as the list of the last records does. It goes by the ring of crate cache: words hold a ring where their numbers,
-- and the words of each place, are the ring's. Assumes nothing.
use mathlib.Core.Path.{◌≡◌, refl, sym, ap, ◌∙◌}
use mathlib.Core.Bool.{Bool, true, false, ◌&&◌, and-eq-true_iff}
use mathlib.Core.List.{List, [], ◌∷◌}
use Prim.Native.Nat.{ℕ, zero, suc, ◌+◌, ◌%◌, ◌<◌, ◌≤◌, min}
use native.Mathlib.Nat.{mod-lt, min-le_right}
use native.Mathlib.Numerals.{add-one}
use native.Mathlib.Omega.{arith}
use borrow.Author.Tests.{le-ltb, ltb-false, eqb-true, eqb-false, eq-eqb}
use lib.Dec.{ltb, eqb}
use lib.ListN.{length, take, get_or, set, replicate, length-set, get_or-replicate}
use lib.Seq.{get_or-set_same, get_or-set_other}
use Rattle.base.proofs.Lists.{◌◂◌}
use Rattle.cache.specs.declared.record.PayloadCache.{PayloadCache}
use Rattle.cache.specs.declared.ring.Cache.{Cache}
use Rattle.cache.specs.inner.Ring as ring
use Rattle.cache.specs.Cache.{pack_of, same_record, has, answers}
use Rattle.cache.specs.inner.Ring.{empty_ring, new_of, added_of, pushed_of, ring_answers}
use Rattle.cache.proofs.Steps.{has_more}
use Rattle.cache.proofs.Laws.{pack_same, adds_list}
use Rattle.cache_words.specs.inner.Packed.{size_in, head_at, time_at, relay_at, cleared_words, is_at, is_below, stored_at, pushed_words, adds_answer, adds_words, add_answer, add_words, packed_answers, no_record, SmallId, SmallIds}

-- ---- one place

-- the words at place i
abbrev slot_of : List ℕ → ℕ → List ℕ
slot_of w i = get_or w (head_at i) 0 ∷ get_or w (time_at i) 0 ∷ get_or w (relay_at i) 0 ∷ []

both_ways : (a b : Bool) → (a ≡ true → b ≡ true) → (b ≡ true → a ≡ true) → a ≡ b
both_ways true b f g = sym (f refl)
both_ways false true f g = g refl
both_ways false false f g = refl

at_there : (w p : List ℕ) (i : ℕ) → get_or w (relay_at i) 0 ≡ get_or p 2 0 → get_or w (time_at i) 0 ≡ get_or p 1 0 → get_or w (head_at i) 0 ≡ get_or p 0 0 → is_at w p i ≡ true
unfolding is_at
at_there w p i a b c = rw (eq-eqb _ _ a, eq-eqb _ _ b, eq-eqb _ _ c) refl

at_is : (w p : List ℕ) (i : ℕ) → is_at w p i ≡ true → slot_of w i ≡ get_or p 0 0 ∷ get_or p 1 0 ∷ get_or p 2 0 ∷ []
unfolding is_at
at_is w p i e =
    let q = (and-eq-true_iff (eqb (get_or w (relay_at i) 0) (get_or p 2 0) && eqb (get_or w (time_at i) 0) (get_or p 1 0)) (eqb (get_or w (head_at i) 0) (get_or p 0 0))).0 e in
    let t = (and-eq-true_iff (eqb (get_or w (relay_at i) 0) (get_or p 2 0)) (eqb (get_or w (time_at i) 0) (get_or p 1 0))).0 q.0 in
    eqb-true _ _ q.1 ◂ eqb-true _ _ t.1 ◂ eqb-true _ _ t.0 ◂ refl

-- a place that holds s holds r where the two are the same
at_same : (w : List ℕ) (i : ℕ) (s r : PayloadCache) → SmallId s → SmallId r → slot_of w i ≡ pack_of s → is_at w (pack_of r) i ≡ same_record s r
unfolding pack_of
at_same w i s r fs fr e = both_ways (is_at w (pack_of r) i) (same_record s r) to from
  where
    to : is_at w (pack_of r) i ≡ true → same_record s r ≡ true
    to t = (pack_same s r fs fr).0 (sym e ∙ at_is w (pack_of r) i t)

    from : same_record s r ≡ true → is_at w (pack_of r) i ≡ true
    from t =
        let q : slot_of w i ≡ pack_of r = e ∙ (pack_same s r fs fr).1 t in
        at_there w (pack_of r) i (ap (λ (l : List ℕ). get_or l 2 0) q) (ap (λ (l : List ℕ). get_or l 1 0) q) (ap (λ (l : List ℕ). get_or l 0 0) q)

-- ---- these words hold that ring

pub record Holds (w : List ℕ) (c : Cache) : Type 0 where
  pub long : length w ≡ 195
  pub places : length c.slots ≡ 64
  pub size : size_in w ≡ c.size
  pub len : get_or w 1 0 ≡ c.len
  pub next : get_or w 2 0 ≡ c.next
  pub slot : (i : ℕ) → i < 64 → slot_of w i ≡ pack_of (get_or c.slots i no_record)
  pub fit : (i : ℕ) → i < 64 → SmallId (get_or c.slots i no_record)

below_has : (w : List ℕ) (c : Cache) → Holds w c → (r : PayloadCache) → SmallId r → (n : ℕ) → n ≤ 64 → is_below w (pack_of r) n ≡ has (take n c.slots) r
unfolding is_below has
below_has w c g r f zero h = refl
below_has w c g r f (suc n) h =
    let long : length c.slots ≡ 64 = g.places in
    rw (below_has w c g r f n (omega arith), at_same w n (get_or c.slots n no_record) r (g.fit n h) f (g.slot n h))
    (sym (ap (λ (k : ℕ). has (take k c.slots) r) (sym (add-one n)) ∙ has_more c.slots n no_record r (omega arith)))

-- ---- a cleared cache

zeros : (n j : ℕ) → 1 ≤ j → j < 195 → get_or (n ∷ replicate 194 0) j 0 ≡ 0
zeros n zero h k = absurd (omega arith)
zeros n (suc j) h k = get_or-replicate 194 j 0 0 (omega arith)

cleared_empty : (n : ℕ) → Holds (cleared_words n) (empty_ring n)
unfolding cleared_words pack_of
cleared_empty n =
    record {
      long = refl;
      places = refl;
      size = refl;
      len = refl;
      next = refl;
      slot = λ i h.
          rw (get_or-replicate 64 i no_record no_record h)
          (zeros n (head_at i) (omega arith) (omega arith) ◂ zeros n (time_at i) (omega arith) (omega arith) ◂ zeros n (relay_at i) (omega arith) (omega arith) ◂ refl);
      fit = λ i h. rw (get_or-replicate 64 i no_record no_record h) (omega arith);
    }

pub cleared_holds : (n : ℕ) → 1 ≤ n → n ≤ 64 → Holds (cleared_words n) (new_of n).cache
unfolding new_of
cleared_holds n h k = rw (le-ltb n 1 h, le-ltb 64 n k) (cleared_empty n)

-- ---- a store at place k

module _ (w : List ℕ) (long : length w ≡ 195) (p : List ℕ) (k l m : ℕ) (small : k < 64) where
  abbrev w₁ : List ℕ
  w₁ = set w (head_at k) (get_or p 0 0)

  abbrev w₂ : List ℕ
  w₂ = set w₁ (time_at k) (get_or p 1 0)

  abbrev w₃ : List ℕ
  w₃ = stored_at w p k

  abbrev w₄ : List ℕ
  w₄ = set w₃ 1 l

  abbrev stored : List ℕ
  stored = set w₄ 2 m

  -- stores at 1 and 2 leave the places, and those at the places leave 1 and 2
  past : (j : ℕ) → 3 ≤ j → get_or stored j 0 ≡ get_or w₃ j 0
  past j h = get_or-set_other w₄ 2 j m 0 (λ e. omega arith) ∙ get_or-set_other w₃ 1 j l 0 (λ e. omega arith)

  stored_long : length stored ≡ 195
  stored_long = simp length-set long

  stored_size : get_or stored 0 0 ≡ get_or w 0 0
  stored_size =
      get_or-set_other w₄ 2 0 m 0 (λ e. omega arith) ∙ get_or-set_other w₃ 1 0 l 0 (λ e. omega arith) ∙ get_or-set_other w₂ (relay_at k) 0 (get_or p 2 0) 0 (λ e. omega arith)
      ∙ get_or-set_other w₁ (time_at k) 0 (get_or p 1 0) 0 (λ e. omega arith) ∙ get_or-set_other w (head_at k) 0 (get_or p 0 0) 0 (λ e. omega arith)

  stored_len : get_or stored 1 0 ≡ l
  stored_len = get_or-set_other w₄ 2 1 m 0 (λ e. omega arith) ∙ get_or-set_same w₃ 1 l 0 (simp (length-set, long) (omega arith))

  stored_next : get_or stored 2 0 ≡ m
  stored_next = get_or-set_same w₄ 2 m 0 (simp (length-set, long) (omega arith))

  -- at k, and elsewhere
  stored_there : slot_of stored k ≡ get_or p 0 0 ∷ get_or p 1 0 ∷ get_or p 2 0 ∷ []
  stored_there =
      (past (head_at k) (omega arith) ∙ get_or-set_other w₂ (relay_at k) (head_at k) (get_or p 2 0) 0 (λ e. omega arith)
      ∙ get_or-set_other w₁ (time_at k) (head_at k) (get_or p 1 0) 0 (λ e. omega arith) ∙ get_or-set_same w (head_at k) (get_or p 0 0) 0 (omega arith))
      ◂ (past (time_at k) (omega arith) ∙ get_or-set_other w₂ (relay_at k) (time_at k) (get_or p 2 0) 0 (λ e. omega arith)
      ∙ get_or-set_same w₁ (time_at k) (get_or p 1 0) 0 (simp (length-set, long) (omega arith)))
      ◂ (past (relay_at k) (omega arith) ∙ get_or-set_same w₂ (relay_at k) (get_or p 2 0) 0 (simp (length-set, long) (omega arith)))
      ◂ refl

  else_at : (j : ℕ) → 3 ≤ j → (j ≡ head_at k → ⊥) → (j ≡ time_at k → ⊥) → (j ≡ relay_at k → ⊥) → get_or stored j 0 ≡ get_or w j 0
  else_at j h a b d =
      past j h ∙ get_or-set_other w₂ (relay_at k) j (get_or p 2 0) 0 d ∙ get_or-set_other w₁ (time_at k) j (get_or p 1 0) 0 b ∙ get_or-set_other w (head_at k) j (get_or p 0 0) 0 a

  stored_else : (i : ℕ) → i < 64 → (i ≡ k → ⊥) → slot_of stored i ≡ slot_of w i
  stored_else i h n =
      else_at (head_at i) (omega arith) (λ e. n (omega arith)) (λ e. omega arith) (λ e. omega arith)
      ◂ else_at (time_at i) (omega arith) (λ e. omega arith) (λ e. n (omega arith)) (λ e. omega arith)
      ◂ else_at (relay_at i) (omega arith) (λ e. omega arith) (λ e. omega arith) (λ e. n (omega arith))
      ◂ refl

-- ---- adding

module _ (w : List ℕ) (c : Cache) (g : Holds w c) (r : PayloadCache) (f : SmallId r) (k l m : ℕ) (small : k < 64) where
  abbrev after : List ℕ
  after = stored w g.long (pack_of r) k l m small

  slot_at : (i : ℕ) → i < 64 → (b : Bool) → eqb i k ≡ b → (slot_of after i ≡ pack_of (get_or (set c.slots k r) i no_record)) × SmallId (get_or (set c.slots k r) i no_record)
  unfolding pack_of
  slot_at i h true e =
      let t : i ≡ k = eqb-true i k e in
      let s : get_or (set c.slots k r) k no_record ≡ r = get_or-set_same c.slots k r no_record (rw g.places small) in
      rw (t, s) (stored_there w g.long (pack_of r) k l m small, f)
  slot_at i h false e =
      let n : i ≡ k → ⊥ = eqb-false i k e in
      rw (get_or-set_other c.slots k i r no_record n) (stored_else w g.long (pack_of r) k l m small i h n ∙ g.slot i h, g.fit i h)

  after_holds : Holds after (record { slots = set c.slots k r; size = c.size; len = l; next = m })
  after_holds =
      record {
        long = stored_long w g.long (pack_of r) k l m small;
        places = length-set c.slots k r ∙ g.places;
        size = stored_size w g.long (pack_of r) k l m small ∙ g.size;
        len = stored_len w g.long (pack_of r) k l m small;
        next = stored_next w g.long (pack_of r) k l m small;
        slot = λ i h. (slot_at i h (eqb i k) refl).0;
        fit = λ i h. (slot_at i h (eqb i k) refl).1;
      }

pushed_holds : (w : List ℕ) (c : Cache) → Holds w c → (r : PayloadCache) → SmallId r → 1 ≤ c.size → c.size ≤ 64 → Holds (pushed_words w (pack_of r)) (pushed_of c r)
unfolding pushed_words pushed_of
pushed_holds w c g r f some most =
    let h : c.next % c.size < c.size = mod-lt c.next some in
    rw (g.len, g.next, g.size) (after_holds w c g r f (ring.ring_place c) (min (ring.ring_count c + 1) c.size) ((ring.ring_place c + 1) % c.size) (omega arith))

-- what adding r does to words that hold a ring: they answer as the ring, and hold what it becomes
pub record Follows (w : List ℕ) (c : Cache) (r : PayloadCache) : Type 0 where
  pub answer : add_answer w r ≡ (added_of c r).answer
  pub holds : Holds (add_words w r) (added_of c r).cache

pub follows : (w : List ℕ) (c : Cache) → Holds w c → (r : PayloadCache) → SmallId r → Follows w c r
unfolding adds_answer adds_words added_of
follows w c g r f = go (ltb c.size 1) (ltb 64 c.size) (has (take (ring.ring_count c) c.slots) r) refl refl refl
  where
    go : (a b d : Bool) → ltb c.size 1 ≡ a → ltb 64 c.size ≡ b → has (take (ring.ring_count c) c.slots) r ≡ d → Follows w c r
    go true b d ea eb ed = record { answer = rw (g.size, ea) refl; holds = rw (g.size, ea) g }
    go false true d ea eb ed = record { answer = rw (g.size, ea, eb) refl; holds = rw (g.size, ea, eb) g }
    go false false d ea eb ed =
        let some : 1 ≤ c.size = ltb-false c.size 1 ea in
        let most : c.size ≤ 64 = ltb-false 64 c.size eb in
        let n : min c.len c.size ≤ c.size = min-le_right c.len c.size in
        let below : is_below w (pack_of r) (ring.ring_count c) ≡ d = below_has w c g r f (ring.ring_count c) (omega arith) ∙ ed in
        by d ed below (pushed_holds w c g r f some most)
      where
        by : (d : Bool) → has (take (ring.ring_count c) c.slots) r ≡ d → is_below w (pack_of r) (ring.ring_count c) ≡ d → Holds (pushed_words w (pack_of r)) (pushed_of c r) → Follows w c r
        by true ed below p = record { answer = rw (g.size, g.len, ea, eb, ed, below) refl; holds = rw (g.size, g.len, ea, eb, ed, below) g }
        by false ed below p = record { answer = rw (g.size, g.len, ea, eb, ed, below) refl; holds = rw (g.size, g.len, ea, eb, ed, below) p }

all_follow : (w : List ℕ) (c : Cache) → Holds w c → (rs : List PayloadCache) → SmallIds rs → packed_answers w rs ≡ ring_answers c rs
unfolding packed_answers ring_answers
all_follow w c g [] f = refl
all_follow w c g (r ∷ rs) f =
    let s : Follows w c r = follows w c g r (f 0) in
    s.answer ◂ all_follow (add_words w r) (added_of c r).cache s.holds rs (λ i. f (suc i))

-- whatever is added to a cleared cache, it answers as the list of the last n records does
pub packed_adds_list : (n : ℕ) → 1 ≤ n → n ≤ 64 → (rs : List PayloadCache) → SmallIds rs → packed_answers (cleared_words n) rs ≡ answers n [] rs
packed_adds_list n h k rs f = all_follow (cleared_words n) (new_of n).cache (cleared_holds n h k) rs f ∙ adds_list n h k rs
