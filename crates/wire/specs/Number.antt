-- Big-endian numbers, of any width. Assumes nothing.
use Rattle.std.specs.Prelude.{ℕ, zero, suc, ◌+◌, ◌*◌, ◌/◌, ◌%◌, ◌^◌, List, [], ◌∷◌}

-- the number whose first digits, to base 256, are n, and whose next are the bytes of s
unfoldable pub be_more : ℕ → List ℕ → ℕ
be_more n [] = n
be_more n (b ∷ s) = be_more (n * 256 + b) s

unfoldable pub be_of : List ℕ → ℕ
be_of [] = 0
be_of (b ∷ s) = be_more b s

-- the low w bytes of v, the highest first
unfoldable pub be_bytes : ℕ → ℕ → List ℕ
be_bytes zero v = []
be_bytes (suc w) v = v / 256 ^ w % 256 ∷ be_bytes w v
