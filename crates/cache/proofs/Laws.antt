-- Laws of the cache: two records are the same where they are equal; the list holds the last n records that were added; a ring that was made
-- by `new` and `add` answers as the list does; and example P12. Assumes nothing.
use mathlib.Core.Path.{◌≡◌, refl, sym, ap, subst, ◌∙◌}
use mathlib.Core.Bool.{Bool, true, false, ◌&&◌, ◌||◌, or-false, or-true, false≢true}
use mathlib.Core.List.{List, [], ◌∷◌, ◌++◌, append-nil, append_assoc}
use mathlib.Core.Logic.{⊎_elim, ◌⊎◌, inl, inr}
use Prim.Native.Nat.{ℕ, suc, ◌+◌, ◌-◌, ◌*◌, ◌/◌, ◌%◌, ◌<◌, ◌≤◌, min}
use native.Mathlib.Nat.{min-eq_left, min-eq_right, mod-eq_of_lt, mod_self, zero-mod, le_refl, zero-lt-suc}
use native.Mathlib.Numerals.{add-one}
use native.Mathlib.Omega.{arith}
use borrow.Author.Tests.{lt-ltb, le-ltb, ltb-true, ltb-false, eqb-true, eq-eqb}
use lib.Dec.{ltb, eqb}
use lib.ListN.{length, take, drop, set, length-append, take-append-drop, length-set, length-drop, get_or}
use lib.Seq.{take-suc-set, slice, slice_empty, slice-cons, length-slice, length-take-le, take-set-lt, drop-set-lt, take-take, drop-append-le, drop-drop, drop-nil}
use Rattle.fields.specs.Header.{code_of}
use Rattle.fields.specs.declared.header.PayloadType.{PayloadType}
use Rattle.fields.specs.declared.header.PayloadType.TheVariants.{Uplink, Downlink, Event, Command}
use Rattle.cache.specs.declared.record.PayloadCache.{PayloadCache}
use Rattle.cache.specs.declared.ring.Cache.{Cache}
use Rattle.cache.specs.declared.ring.CacheAnswer.{CacheAnswer}
use Rattle.cache.specs.declared.ring.CacheAnswer.TheVariants.{New, Seen}
use Rattle.cache.specs.Cache.{same_record, head_word, pack_of, type_by_code, unpack_of, has, push, step, answers, last_of, answers_last}
use Rattle.cache.specs.inner.Ring.{new_of, ring_count, ring_place, pushed_of, added_of, ring_answers, contents}
use Rattle.std.proofs.lemmas.List.Folds.{list_any_at}
use Rattle.cache.proofs.Steps.{has_any, has_append}

cases : (m n : ℕ) → (m < n) ⊎ (n ≤ m)
cases m n = go (ltb m n) refl
  where
    go : (b : Bool) → ltb m n ≡ b → (m < n) ⊎ (n ≤ m)
    go true e = inl (ltb-true m n e)
    go false e = inr (ltb-false m n e)

-- ---- `same_record` is equality

and_fst : (a b : Bool) → (a && b) ≡ true → a ≡ true
and_fst true b e = refl
and_fst false b e = e

and_snd : (a b : Bool) → (a && b) ≡ true → b ≡ true
and_snd true b e = e
and_snd false b e = cc

type_of_code : (t : PayloadType) → type_by_code (code_of t) ≡ t
type_of_code Uplink = refl
type_of_code Downlink = refl
type_of_code Event = refl
type_of_code Command = refl

code_one : (t u : PayloadType) → code_of t ≡ code_of u → t ≡ u
code_one t u e = sym (type_of_code t) ∙ ap type_by_code e ∙ type_of_code u

same_eq : (a b : PayloadCache) → same_record a b ≡ true → a ≡ b
unfolding same_record
same_eq a b e =
    let c₀ = eqb (code_of a.p_type) (code_of b.p_type) in
    let c₁ = eqb a.uplink_id b.uplink_id in
    let c₂ = eqb a.timestamp b.timestamp in
    let c₃ = eqb a.relay_id b.relay_id in
    let t₃ = and_fst (c₀ && c₁ && c₂) c₃ e in
    let t₂ = and_fst (c₀ && c₁) c₂ t₃ in
    let k : a.p_type ≡ b.p_type = code_one _ _ (eqb-true _ _ (and_fst c₀ c₁ t₂)) in
    let u : a.uplink_id ≡ b.uplink_id = eqb-true _ _ (and_snd c₀ c₁ t₂) in
    let t : a.timestamp ≡ b.timestamp = eqb-true _ _ (and_snd (c₀ && c₁) c₂ t₃) in
    let i : a.relay_id ≡ b.relay_id = eqb-true _ _ (and_snd (c₀ && c₁ && c₂) c₃ e) in
    λ n. record { p_type = k n; uplink_id = u n; timestamp = t n; relay_id = i n }

same_refl : (a : PayloadCache) → same_record a a ≡ true
unfolding same_record
same_refl a =
    rw (
      eq-eqb (code_of a.p_type) (code_of a.p_type) refl,
      eq-eqb a.uplink_id a.uplink_id refl,
      eq-eqb a.timestamp a.timestamp refl,
      eq-eqb a.relay_id a.relay_id refl,
    ) refl

-- all four fields, or none is the same
pub same_is : (a b : PayloadCache) → (same_record a b ≡ true → a ≡ b) × (a ≡ b → same_record a b ≡ true)
same_is a b = (same_eq a b, λ e. ap (same_record a) (sym e) ∙ same_refl a)

-- a list has r where r is one of its elements
has_at : (l : List PayloadCache) (r : PayloadCache) → has l r ≡ true → (i : ℕ) × ((i < length l) × (get_or l i r ≡ r))
unfolding has
has_at [] r e = absurd (false≢true e)
has_at (x ∷ xs) r e = go (has_at xs r) (same_record x r) refl
  where
    go : (has xs r ≡ true → (i : ℕ) × ((i < length xs) × (get_or xs i r ≡ r))) → (b : Bool) → same_record x r ≡ b
        → (i : ℕ) × ((i < length (x ∷ xs)) × (get_or (x ∷ xs) i r ≡ r))
    go rest true same = (0, (zero-lt-suc (length xs), same_eq x r same))
    go rest false other =
        let h = rest (ap (λ (t : Bool). t || has xs r) (sym other) ∙ e) in
        let k : h.0 < length xs = h.1.0 in
        (suc h.0, (omega arith, h.1.1))

pub has_is : (l : List PayloadCache) (r : PayloadCache)
    → (has l r ≡ true → (i : ℕ) × ((i < length l) × (get_or l i r ≡ r))) × ((i : ℕ) → i < length l → get_or l i r ≡ r → has l r ≡ true)
has_is l r = (has_at l r, λ i h e. has_any l r ∙ list_any_at (λ s. same_record s r) l i r h ((same_is (get_or l i r) r).1 e))

-- ---- words: three of a record, whose uplink id fits 16 bits; the other two fields are words as they are

code_small : (t : PayloadType) → code_of t < 4
code_small Uplink = omega arith
code_small Downlink = omega arith
code_small Event = omega arith
code_small Command = omega arith

head_code : (c u : ℕ) → c < 4 → u < 65536 → (c * 65536 + u) / 65536 % 4 ≡ c
head_code c u h k = omega arith

head_id : (c u : ℕ) → u < 65536 → (c * 65536 + u) % 65536 ≡ u
head_id c u k = omega arith

pub pack_back : (r : PayloadCache) → r.uplink_id < 65536 → unpack_of (pack_of r) ≡ r
unfolding pack_of unpack_of
pack_back r h =
    let t = code_of r.p_type in
    let k : type_by_code (head_word r / 65536 % 4) ≡ r.p_type = ap type_by_code (head_code t r.uplink_id (code_small r.p_type) h) ∙ type_of_code r.p_type in
    let u : head_word r % 65536 ≡ r.uplink_id = head_id t r.uplink_id h in
    λ n. record { p_type = k n; uplink_id = u n; timestamp = r.timestamp; relay_id = r.relay_id }

-- the same words exactly where the records are the same
pub pack_same : (a b : PayloadCache) → a.uplink_id < 65536 → b.uplink_id < 65536
    → (pack_of a ≡ pack_of b → same_record a b ≡ true) × (same_record a b ≡ true → pack_of a ≡ pack_of b)
pack_same a b h k = (λ e. (same_is a b).1 (sym (pack_back a h) ∙ ap unpack_of e ∙ pack_back b k), λ e. ap pack_of (same_eq a b e))

-- ---- the list holds the last n of the records that were added

push_last : (n : ℕ) → 1 ≤ n → (all : List PayloadCache) (r : PayloadCache) → push n (last_of n all) r ≡ last_of n (all ++ (r ∷ []))
unfolding push
push_last n h all r =
    ⊎_elim
    (λ (few : length all < n).
    let e₀ : length all - n ≡ 0 = omega arith in
    let e₁ : length all + 1 - n ≡ 0 = omega arith in
    rw (length-append all (r ∷ []), e₀, e₁, lt-ltb (length all) n few) refl)
    (λ (many : n ≤ length all).
    let e₀ : length all - (length all - n) ≡ n = omega arith in
    let e₁ : length all - n + 1 ≡ length all + 1 - n = omega arith in
    rw (length-append all (r ∷ []), length-drop (length all - n) all, e₀, le-ltb n n (le_refl n), drop-append-le (length all + 1 - n) all (r ∷ []) (omega arith), ← e₁)
    (ap (λ (l : List PayloadCache). l ++ (r ∷ [])) (drop-drop 1 (length all - n) all)))
    (cases (length all) n)

last_from : (n : ℕ) → 1 ≤ n → (all rs : List PayloadCache) → answers n (last_of n all) rs ≡ answers_last n all rs
unfolding answers answers_last step
last_from n h all [] = refl
last_from n h all (r ∷ rs) = go (λ l. last_from n h l rs) (has (last_of n all) r) refl
  where
    go : ((l : List PayloadCache) → answers n (last_of n l) rs ≡ answers_last n l rs) → (b : Bool) → has (last_of n all) r ≡ b → answers n (last_of n all) (r ∷ rs) ≡ answers_last n all (r ∷ rs)
    go rest true e = rw e (ap (λ (l : List CacheAnswer). Seen ∷ l) (rest all))
    go rest false e = rw (e, push_last n h all r) (ap (λ (l : List CacheAnswer). New ∷ l) (rest (all ++ (r ∷ []))))

-- what is answered no is one of the last n that were added, and nothing else is
pub last_added : (n : ℕ) → 1 ≤ n → (rs : List PayloadCache) → answers n [] rs ≡ answers_last n [] rs
last_added n h rs = ap (λ (l : List PayloadCache). answers n l rs) (sym (drop-nil (0 - n))) ∙ last_from n h [] rs

-- ---- a ring that `new` and `add` make

pub record Good (c : Cache) : Type 0 where
  pub long : length c.slots ≡ 64
  pub some : 1 ≤ c.size
  pub most : c.size ≤ 64
  pub room : c.len ≤ c.size
  pub next_in : c.next < c.size
  pub next_at : c.next ≤ c.len
  pub next_end : c.len < c.size → c.next ≡ c.len

pub new_good : (n : ℕ) → 1 ≤ n → n ≤ 64 → Good (new_of n).cache
unfolding new_of
new_good n h k =
    rw (le-ltb n 1 h, le-ltb 64 n k)
    (record { long = refl; some = h; most = k; room = omega arith; next_in = h; next_at = omega arith; next_end = λ _. refl })

-- where no number of it is out of bounds
unfoldable held : Cache → List PayloadCache
held c = slice c.next c.len c.slots ++ take c.next c.slots

module _ (c : Cache) (g : Good c) where
  count_is : ring_count c ≡ c.len
  count_is = min-eq_left g.room

  place_is : ring_place c ≡ c.next
  place_is = mod-eq_of_lt g.next_in

  held_is : contents c ≡ held c
  unfolding contents held
  held_is = rw (count_is, place_is) refl

  small : c.len ≤ length c.slots
  small =
      let e : length c.slots ≡ 64 = g.long in
      let h : c.len ≤ c.size = g.room in
      let k : c.size ≤ 64 = g.most in
      omega arith

  held_length : length (held c) ≡ c.len
  unfolding held
  held_length =
      let k : c.len ≤ length c.slots = small in
      let h : c.next ≤ c.len = g.next_at in
      simp (length-append, length-slice c.next c.len c.slots k, length-take-le c.next c.slots (omega arith)) (omega arith)

  -- a record is among the contents where it is among the first places
  has_held : (r : PayloadCache) → has (take (ring_count c) c.slots) r ≡ has (contents c) r
  unfolding held
  has_held r =
      ap (λ (n : ℕ). has (take n c.slots) r) count_is ∙ ap (λ (l : List PayloadCache). has l r) whole ∙ has_append (take c.next c.slots) back r
      ∙ or_comm (has (take c.next c.slots) r) (has back r) ∙ sym (has_append back (take c.next c.slots) r)
      ∙ ap (λ (l : List PayloadCache). has l r) (sym held_is)
    where
      or_comm : (p q : Bool) → (p || q) ≡ (q || p)
      or_comm true q = sym (or-true q)
      or_comm false q = sym (or-false q)

      back : List PayloadCache
      back = slice c.next c.len c.slots

      whole : take c.len c.slots ≡ take c.next c.slots ++ slice c.next c.len c.slots
      whole = sym (ap (λ (l : List PayloadCache). l ++ slice c.next c.len c.slots) (sym (take-take c.next c.len c.slots g.next_at)) ∙ take-append-drop c.next (take c.len c.slots))

-- ---- a store at the next place

module _ (s : List PayloadCache) (r : PayloadCache) where
  one_more : (n : ℕ) → n < length s → take (n + 1) (set s n r) ≡ take n s ++ (r ∷ [])
  one_more n h = ap (λ (m : ℕ). take m (set s n r)) (add-one n) ∙ take-suc-set s n r h

  -- there was room: the ring has come round, or not
  room_on : (n : ℕ) → n < length s → slice (n + 1) (n + 1) (set s n r) ++ take (n + 1) (set s n r) ≡ (slice n n s ++ take n s) ++ (r ∷ [])
  room_on n h = rw (slice_empty (n + 1), slice_empty n) (one_more n h)

  room_round : (n : ℕ) → n < length s → slice 0 (n + 1) (set s n r) ++ [] ≡ (slice n n s ++ take n s) ++ (r ∷ [])
  room_round n h = rw (append-nil, slice_empty n) (one_more n h)

  -- the oldest leaves
  dropped : (n m : ℕ) → n < m → m ≤ length s → drop 1 (slice n m s ++ take n s) ≡ slice (n + 1) m s ++ take n s
  dropped n m h k = ap (λ (l : List PayloadCache). drop 1 (l ++ take n s)) (slice-cons n m s r h k) ∙ ap (λ (j : ℕ). slice j m s ++ take n s) (sym (add-one n))

  over : (n m : ℕ) → n < m → slice (n + 1) m (set s n r) ≡ slice (n + 1) m s
  over n m h = ap (drop (n + 1)) (take-set-lt m s n r h) ∙ drop-set-lt (n + 1) (take m s) n r (omega arith)

  full_on : (n m : ℕ) → n < m → m ≤ length s → slice (n + 1) m (set s n r) ++ take (n + 1) (set s n r) ≡ drop 1 (slice n m s ++ take n s) ++ (r ∷ [])
  full_on n m h k = rw (over n m h, one_more n (omega arith), dropped n m h k) (sym (append_assoc (slice (n + 1) m s) (take n s) (r ∷ [])))

  full_round : (n m : ℕ) → n + 1 ≡ m → m ≤ length s → slice 0 m (set s n r) ++ [] ≡ drop 1 (slice n m s ++ take n s) ++ (r ∷ [])
  full_round n m e k =
      append-nil _ ∙ ap (λ (j : ℕ). take j (set s n r)) (sym e) ∙ one_more n (omega arith)
      ∙ ap (λ (l : List PayloadCache). (l ++ take n s) ++ (r ∷ [])) (sym (slice_empty m s) ∙ ap (λ (j : ℕ). slice j m s) (sym e))
      ∙ ap (λ (l : List PayloadCache). l ++ (r ∷ [])) (sym (dropped n m (omega arith) k))

-- ---- adding

-- at any length and next place that the tests of the ring's numbers give
module _ (c : Cache) (r : PayloadCache) (g : Good c) (m k : ℕ)
    (m_more : c.len < c.size → m ≡ c.len + 1) (m_same : c.size ≤ c.len → m ≡ c.len)
    (k_on : c.next + 1 < c.size → k ≡ c.next + 1) (k_round : c.size ≤ c.next + 1 → k ≡ 0) where
  abbrev ring : Cache
  ring = record { slots = set c.slots c.next r; size = c.size; len = m; next = k }

  after_push : held ring ≡ push c.size (held c) r
  unfolding held push
  after_push =
      let long : length c.slots ≡ 64 = g.long in
      let most : c.size ≤ 64 = g.most in
      let inside : c.next < c.size = g.next_in in
      let room : c.len ≤ c.size = g.room in
      ⊎_elim
      (λ (free : c.len < c.size).
      let e : c.next ≡ c.len = g.next_end free in
      rw (lt-ltb (length (held c)) c.size (rw (held_length c g) free), m_more free, ← e)
      (⊎_elim (λ on. rw (k_on on) (room_on c.slots r c.next (omega arith))) (λ round. rw (k_round round) (room_round c.slots r c.next (omega arith))) (cases (c.next + 1) c.size)))
      (λ (full : c.size ≤ c.len).
      rw (le-ltb (length (held c)) c.size (rw (held_length c g) full), m_same full)
      (⊎_elim (λ on. rw (k_on on) (full_on c.slots r c.next c.len (omega arith) (omega arith))) (λ round. rw (k_round round) (full_round c.slots r c.next c.len (omega arith) (omega arith))) (cases (c.next + 1) c.size)))
      (cases c.len c.size)

  good_push : Good ring
  good_push =
      let room : c.len ≤ c.size = g.room in
      let inside : c.next < c.size = g.next_in in
      let behind : c.next ≤ c.len = g.next_at in
      let long : length (set c.slots c.next r) ≡ 64 = length-set c.slots c.next r ∙ g.long in
      ⊎_elim
      (λ (free : c.len < c.size).
      let e : m ≡ c.len + 1 = m_more free in
      let e' : c.next ≡ c.len = g.next_end free in
      ⊎_elim (λ on. let e'' : k ≡ c.next + 1 = k_on on in record { long = long; some = g.some; most = g.most; room = omega arith; next_in = omega arith; next_at = omega arith; next_end = λ h. omega arith })
      (λ round. let e'' : k ≡ 0 = k_round round in record { long = long; some = g.some; most = g.most; room = omega arith; next_in = omega arith; next_at = omega arith; next_end = λ h. omega arith })
      (cases (c.next + 1) c.size))
      (λ (full : c.size ≤ c.len).
      let e : m ≡ c.len = m_same full in
      ⊎_elim (λ on. let e'' : k ≡ c.next + 1 = k_on on in record { long = long; some = g.some; most = g.most; room = omega arith; next_in = omega arith; next_at = omega arith; next_end = λ h. omega arith })
      (λ round. let e'' : k ≡ 0 = k_round round in record { long = long; some = g.some; most = g.most; room = omega arith; next_in = omega arith; next_at = omega arith; next_end = λ h. omega arith })
      (cases (c.next + 1) c.size))
      (cases c.len c.size)

module _ (c : Cache) (r : PayloadCache) (g : Good c) where
  len_more : c.len < c.size → min (c.len + 1) c.size ≡ c.len + 1
  len_more h = min-eq_left (omega arith)

  len_same : c.size ≤ c.len → min (c.len + 1) c.size ≡ c.len
  len_same h =
      let l : c.len ≤ c.size = g.room in
      let e : c.size ≡ c.len = omega arith in
      min-eq_right (omega arith) ∙ e

  next_on : c.next + 1 < c.size → (c.next + 1) % c.size ≡ c.next + 1
  next_on h = mod-eq_of_lt h

  next_round : c.size ≤ c.next + 1 → (c.next + 1) % c.size ≡ 0
  next_round h =
      let l : c.next < c.size = g.next_in in
      let e : c.next + 1 ≡ c.size = omega arith in
      ap (λ (j : ℕ). j % c.size) e ∙ mod_self c.size

  abbrev pushed : Cache
  pushed = record { slots = set c.slots c.next r; size = c.size; len = min (c.len + 1) c.size; next = (c.next + 1) % c.size }

  pushed_is : pushed_of c r ≡ pushed
  unfolding pushed_of
  pushed_is = rw (count_is c g, place_is c g) refl

  pushed_good : Good pushed
  pushed_good = good_push c r g _ _ len_more len_same next_on next_round

  pub push_good : Good (pushed_of c r)
  push_good = subst Good (sym pushed_is) pushed_good

  pub push_list : contents (pushed_of c r) ≡ push c.size (contents c) r
  push_list = ap contents pushed_is ∙ held_is pushed pushed_good ∙ after_push c r g _ _ len_more len_same next_on next_round ∙ ap (λ (l : List PayloadCache). push c.size l r) (sym (held_is c g))

-- what adding r does to a good ring: as the list, and the ring stays good
pub record Follows (c : Cache) (r : PayloadCache) : Type 0 where
  pub answer : (added_of c r).answer ≡ (step c.size (contents c) r).0
  pub list : contents (added_of c r).cache ≡ (step c.size (contents c) r).1
  pub size : (added_of c r).cache.size ≡ c.size
  pub good : Good (added_of c r).cache

pub follows : (c : Cache) (r : PayloadCache) → Good c → Follows c r
unfolding added_of step pushed_of
follows c r g = go (has (contents c) r) refl
  where
    go : (b : Bool) → has (contents c) r ≡ b → Follows c r
    go true e =
        let e' : has (take (ring_count c) c.slots) r ≡ true = has_held c g r ∙ e in
        record {
          answer = rw (le-ltb c.size 1 g.some, le-ltb 64 c.size g.most, e', e) refl;
          list = rw (le-ltb c.size 1 g.some, le-ltb 64 c.size g.most, e', e) refl;
          size = rw (le-ltb c.size 1 g.some, le-ltb 64 c.size g.most, e') refl;
          good = rw (le-ltb c.size 1 g.some, le-ltb 64 c.size g.most, e') g;
        }
    go false e =
        let e' : has (take (ring_count c) c.slots) r ≡ false = has_held c g r ∙ e in
        record {
          answer = rw (le-ltb c.size 1 g.some, le-ltb 64 c.size g.most, e', e) refl;
          list = rw (le-ltb c.size 1 g.some, le-ltb 64 c.size g.most, e', e) (push_list c r g);
          size = rw (le-ltb c.size 1 g.some, le-ltb 64 c.size g.most, e') refl;
          good = rw (le-ltb c.size 1 g.some, le-ltb 64 c.size g.most, e') (push_good c r g);
        }

all_follow : (c : Cache) → Good c → (rs : List PayloadCache) → ring_answers c rs ≡ answers c.size (contents c) rs
unfolding ring_answers answers
all_follow c g [] = refl
all_follow c g (r ∷ rs) =
    let f : Follows c r = follows c r g in
    rw (all_follow (added_of c r).cache f.good rs, f.size, f.list, f.answer) refl

new_size : (n : ℕ) → 1 ≤ n → n ≤ 64 → (new_of n).cache.size ≡ n
unfolding new_of
new_size n h k = rw (le-ltb n 1 h, le-ltb 64 n k) refl

new_list : (n : ℕ) → 1 ≤ n → n ≤ 64 → contents (new_of n).cache ≡ []
unfolding new_of contents
new_list n h k = rw (le-ltb n 1 h, le-ltb 64 n k, zero-mod n, none) refl
  where
    none : min 0 n ≡ 0
    none = min-eq_left (omega arith)

-- whatever is added to a new cache, the ring answers as the list of the last n records does
pub adds_list : (n : ℕ) → 1 ≤ n → n ≤ 64 → (rs : List PayloadCache) → ring_answers (new_of n).cache rs ≡ answers n [] rs
adds_list n h k rs = all_follow (new_of n).cache (new_good n h k) rs ∙ rw (new_size n h k, new_list n h k) refl
