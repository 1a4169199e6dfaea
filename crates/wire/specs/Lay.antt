-- Bytes laid into a buffer at a place. Assumes nothing.
use Rattle.std.specs.Prelude.{ℕ, ◌+◌, List, ◌++◌, leb, length, take, drop}
use Rattle.base.specs.Pick.{pick}

-- v over what stands in o at a place
abbrev pub laid : List ℕ → ℕ → List ℕ → List ℕ
laid o at v = take at o ++ v ++ drop (at + length v) o

-- the same where it fits, and o as it is where not
unfoldable pub put : List ℕ → ℕ → List ℕ → List ℕ
put o at v = pick (leb (at + length v) (length o)) (laid o at v) o
