-- The cache as the code keeps it, a ring. proofs/Laws.antt shows that it answers as the list of the last records does. Assumes nothing.
use Rattle.std.specs.Prelude.{ℕ, ◌+◌, ◌%◌, min, List, [], ◌∷◌, ◌++◌, ltb, take, drop, set, replicate}
use Rattle.base.specs.Pick.{pick}
use Rattle.base.specs.Numbers.{cache_size, cache_least, cache_most}
use Rattle.base.specs.declared.Checked.TheVariants.{Accepted, Refused as NotMade}
use Rattle.fields.specs.declared.header.PayloadType.TheVariants.{Uplink}
use Rattle.cache.specs.Cache.{rec, has}
use Rattle.cache.specs.declared.record.PayloadCache.{PayloadCache}
use Rattle.cache.specs.declared.ring.Cache.{Cache}
use Rattle.cache.specs.declared.ring.CacheNew.{CacheNew}
use Rattle.cache.specs.declared.ring.Added.{Added}
use Rattle.cache.specs.declared.ring.CacheAnswer.{CacheAnswer}
use Rattle.cache.specs.declared.ring.CacheAnswer.TheVariants.{New, Seen, Refused}

abbrev pub empty_ring : ℕ → Cache
empty_ring n = record { slots = replicate 64 (rec Uplink 0 0 0); size = n; len = 0; next = 0 }

-- 24 for a size of 0 or over 64, with a cache of size 0
unfoldable pub new_of : ℕ → CacheNew
new_of n =
    pick (ltb n cache_least) (record { answer = NotMade cache_size; cache = empty_ring 0 })
    (pick (ltb cache_most n) (record { answer = NotMade cache_size; cache = empty_ring 0 })
    (record { answer = Accepted; cache = empty_ring n }))

-- how many records it holds, and the place of the next one
abbrev pub ring_count : Cache → ℕ
ring_count c = min c.len c.size

abbrev pub ring_place : Cache → ℕ
ring_place c = c.next % c.size

-- r in the next place
unfoldable pub pushed_of : Cache → PayloadCache → Cache
pushed_of c r =
    record {
      slots = set c.slots (ring_place c) r;
      size = c.size;
      len = min (ring_count c + 1) c.size;
      next = (ring_place c + 1) % c.size;
    }

-- 24 for a size of 0 or over 64, and the cache as it was
abbrev pub refused_by : Cache → Added
refused_by c = record { answer = Refused cache_size; cache = c }

unfoldable pub added_of : Cache → PayloadCache → Added
added_of c r =
    pick (ltb c.size cache_least) (refused_by c)
    (pick (ltb cache_most c.size) (refused_by c)
    (pick (has (take (ring_count c) c.slots) r) (record { answer = Seen; cache = c })
    (record { answer = New; cache = pushed_of c r })))

-- the answers to records that are added one after the other
unfoldable pub ring_answers : Cache → List PayloadCache → List CacheAnswer
ring_answers c [] = []
ring_answers c (r ∷ rs) = (added_of c r).answer ∷ ring_answers (added_of c r).cache rs

-- its records, oldest first
unfoldable pub contents : Cache → List PayloadCache
contents c = drop (ring_place c) (take (ring_count c) c.slots) ++ take (ring_place c) c.slots
