-- What a duplicate record has of a packet, by the code of its kind, and a word of the cache. Assumes nothing.
use Rattle.std.specs.Prelude.{ℕ, ◌+◌, ◌*◌, ◌%◌, ltb}
use Rattle.base.specs.Pick.{pick}

unfoldable pub known_id : ℕ → ℕ → ℕ
known_id kind id = pick (ltb kind 2) id 0

unfoldable pub known_time : ℕ → ℕ → ℕ
known_time kind time = pick (ltb kind 2) 0 time

-- the cache's first word of a record: two bits of type, 16 of uplink id
abbrev pub head_of : ℕ → ℕ → ℕ
head_of code id = code % 4 * 65536 + id % 65536
