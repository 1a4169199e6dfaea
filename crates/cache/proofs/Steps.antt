-- What the steps of `added` show: whether a record is among some, and what it answers then. Assumes nothing.
use mathlib.Core.Path.{◌≡◌, refl, sym, ap, ◌∙◌}
use mathlib.Core.Bool.{Bool, true, false, ◌||◌}
use mathlib.Core.List.{List, [], ◌∷◌, ◌++◌}
use Prim.Native.Nat.{ℕ, ◌+◌, ◌%◌, ◌<◌, ◌≤◌, min}
use borrow.Author.Tests.{le-ltb}
use lib.ListN.{length, take, get_or, set}
use mir.Val.{Val}
use denote.Laws.{Is}
use Rattle.std.specs.List.{list_any}
use Rattle.std.proofs.lemmas.List.Folds.{list_any-append, list_any_more}
use Rattle.cache.specs.declared.record.PayloadCache.{PayloadCache}
use Rattle.cache.specs.declared.ring.Cache.{Cache}
use Rattle.cache.specs.contracts.ring.Cache as T
use Rattle.cache.specs.declared.ring.CacheAnswer.TheVariants.{New, Seen}
use Rattle.cache.specs.Cache.{same_record, has}
use Rattle.cache.specs.inner.Ring.{ring_count, ring_place, pushed_of, added_of}

-- ---- membership, in std's words

pub has_any : (l : List PayloadCache) (r : PayloadCache) → has l r ≡ list_any (λ s. same_record s r) l
unfolding has
has_any [] r = refl
has_any (x ∷ xs) r = ap (λ (t : Bool). same_record x r || t) (has_any xs r)

pub has_append : (a b : List PayloadCache) (r : PayloadCache) → has (a ++ b) r ≡ (has a r || has b r)
has_append a b r = rw (has_any (a ++ b) r, has_any a r, has_any b r) (list_any-append (λ s. same_record s r) a b)

pub has_more : (l : List PayloadCache) (i : ℕ) (d r : PayloadCache) → i < length l → has (take (i + 1) l) r ≡ (has (take i l) r || same_record (get_or l i d) r)
has_more l i d r h = rw (has_any (take (i + 1) l) r, has_any (take i l) r) (list_any_more (λ s. same_record s r) l i d h)

-- a cache of the code has 64 places
pub slots_long : (c : Cache) (vs : List Val) → Is T.the_row c vs → length c.slots ≡ 64
slots_long c vs p = p.1.1.0.1.0.1

-- ---- answers: b is whether one of the first n records is r

module _ (c : Cache) (r : PayloadCache) (some : 1 ≤ c.size) (most : c.size ≤ 64) (n : ℕ) (is_count : n ≡ ring_count c) (b : Bool)
    (is_b : b ≡ list_any (λ s. same_record s r) (take n c.slots)) where
  is_there : has (take (ring_count c) c.slots) r ≡ b
  is_there = has_any (take (ring_count c) c.slots) r ∙ rw (← is_count) (sym is_b)

  pub added_seen : b ≡ true → record { answer = Seen; cache = c } ≡ added_of c r
  unfolding added_of
  added_seen e = rw (le-ltb c.size 1 some, le-ltb 64 c.size most, is_there ∙ e) refl

  pub added_new : b ≡ false → (m : ℕ) → m ≡ min (n + 1) c.size
      → record { answer = New; cache = record { slots = set c.slots (ring_place c) r; size = c.size; len = m; next = (ring_place c + 1) % c.size } } ≡ added_of c r
  unfolding added_of pushed_of
  added_new e m em = rw (em, is_count, le-ltb c.size 1 some, le-ltb 64 c.size most, is_there ∙ e) refl
