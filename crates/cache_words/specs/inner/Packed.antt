-- The cache in 195 words: its size, how many records it has, the next place; then 64 heads, 64 timestamps and 64 relay ids, so that those of
-- one kind lie one after the other. A record's words are `pack_of`'s of crate cache. proofs/Laws.antt shows that it answers as the list of
-- the last records does. Assumes nothing.
use Rattle.std.specs.Prelude.{◌≡◌, ℕ, zero, suc, ◌+◌, ◌%◌, ◌≤◌, ◌<◌, min, Bool, false, ◌&&◌, ◌||◌, List, [], ◌∷◌, ltb, eqb, get_or, set, replicate}
use Rattle.base.specs.Pick.{pick}
use Rattle.base.specs.Numbers.{cache_size, cache_least, cache_most}
use Rattle.base.specs.declared.Checked.{Checked}
use Rattle.base.specs.declared.Checked.TheVariants.{Accepted, Refused as NotMade}
use Rattle.cache.specs.declared.record.PayloadCache.{PayloadCache}
use Rattle.cache.specs.declared.ring.CacheAnswer.{CacheAnswer}
use Rattle.cache.specs.declared.ring.CacheAnswer.TheVariants.{New, Seen, Refused}
use Rattle.cache.specs.Cache.{rec, pack_of}
use Rattle.fields.specs.declared.header.PayloadType.TheVariants.{Uplink}

-- ---- where everything lies

abbrev pub size_in : List ℕ → ℕ
size_in w = get_or w 0 0

-- the length counts up to the size, and the next place is taken modulo the size
abbrev pub count_in : List ℕ → ℕ
count_in w = min (get_or w 1 0) (size_in w)

abbrev pub place_in : List ℕ → ℕ
place_in w = get_or w 2 0 % size_in w

abbrev pub head_at : ℕ → ℕ
head_at i = 3 + i

abbrev pub time_at : ℕ → ℕ
time_at i = 67 + i

abbrev pub relay_at : ℕ → ℕ
relay_at i = 131 + i

-- ---- a cache without records

unfoldable pub cleared_words : ℕ → List ℕ
cleared_words n = n ∷ replicate 194 0

-- 24 for a size of 0 or over 64, and the words as they were
unfoldable pub clear_answer : ℕ → Checked
clear_answer n = pick (ltb n cache_least) (NotMade cache_size) (pick (ltb cache_most n) (NotMade cache_size) Accepted)

unfoldable pub clear_words : ℕ → List ℕ → List ℕ
clear_words n w = pick (ltb n cache_least) w (pick (ltb cache_most n) w (cleared_words n))

-- ---- a record, of which p are the three words

-- it is at place i
unfoldable pub is_at : List ℕ → List ℕ → ℕ → Bool
is_at w p i = eqb (get_or w (relay_at i) 0) (get_or p 2 0) && eqb (get_or w (time_at i) 0) (get_or p 1 0) && eqb (get_or w (head_at i) 0) (get_or p 0 0)

-- it is at one of the first n places
unfoldable pub is_below : List ℕ → List ℕ → ℕ → Bool
is_below w p zero = false
is_below w p (suc n) = is_below w p n || is_at w p n

-- it at place i
abbrev pub stored_at : List ℕ → List ℕ → ℕ → List ℕ
stored_at w p i = set (set (set w (head_at i) (get_or p 0 0)) (time_at i) (get_or p 1 0)) (relay_at i) (get_or p 2 0)

-- what `push` asks: a size that is not refused, and how many places are taken
pub record Ready (w : List ℕ) (size n : ℕ) : Type 0 where
  pub some : 1 ≤ size
  pub most : size ≤ 64
  pub is_size : size ≡ size_in w
  pub is_count : n ≡ count_in w

-- it at the next place
unfoldable pub pushed_words : List ℕ → List ℕ → List ℕ
pushed_words w p = set (set (stored_at w p (place_in w)) 1 (min (count_in w + 1) (size_in w))) 2 ((place_in w + 1) % size_in w)

-- ---- adding: 24 for a size of 0 or over 64; a record that is there changes nothing

-- of its three words
unfoldable pub adds_answer : List ℕ → List ℕ → CacheAnswer
adds_answer w p =
    pick (ltb (size_in w) cache_least) (Refused cache_size)
    (pick (ltb cache_most (size_in w)) (Refused cache_size) (pick (is_below w p (count_in w)) Seen New))

unfoldable pub adds_words : List ℕ → List ℕ → List ℕ
adds_words w p =
    pick (ltb (size_in w) cache_least) w (pick (ltb cache_most (size_in w)) w (pick (is_below w p (count_in w)) w (pushed_words w p)))

-- of the record
abbrev pub add_answer : List ℕ → PayloadCache → CacheAnswer
add_answer w r = adds_answer w (pack_of r)

abbrev pub add_words : List ℕ → PayloadCache → List ℕ
add_words w r = adds_words w (pack_of r)

-- the answers to records that are added one after the other
unfoldable pub packed_answers : List ℕ → List PayloadCache → List CacheAnswer
packed_answers w [] = []
packed_answers w (r ∷ rs) = add_answer w r ∷ packed_answers (add_words w r) rs

-- ---- records that three words hold: an uplink id is of 16 bits, as the code's are; the other fields are words as they are

abbrev pub no_record : PayloadCache
no_record = rec Uplink 0 0 0

abbrev pub SmallId : PayloadCache → Type 0
SmallId r = r.uplink_id < 65536

abbrev pub SmallIds : List PayloadCache → Type 0
SmallIds rs = (i : ℕ) → SmallId (get_or rs i no_record)
