-- RFC 4493, AES-CMAC, over any block cipher E on blocks of 16 bytes. Messages, blocks and tags are lists of bytes. The RFC counts a
-- message's blocks from 1, and `block_at` from 0. `added x y` is the RFC's x XOR y. Assumes nothing.
use Rattle.std.specs.Prelude.{ℕ, zero, suc, ◌+◌, ◌-◌, ◌*◌, ◌/◌, ◌%◌, List, [], ◌∷◌, ◌++◌, ltb, eqb, length, get_or, take, drop, replicate}
use Rattle.base.specs.Pick.{pick}
use Rattle.base.specs.Lists.{from, added}

-- section 2.3, const_Zero
unfoldable pub zeros : List ℕ
zeros = replicate 16 0

-- section 2.3, const_Rb
unfoldable pub rb : List ℕ
rb = replicate 15 0 ++ 0x87 ∷ []

-- section 2.3, L << 1: the low seven bits of each byte, and the top bit of the next. Past the last byte `get_or` gives 0
abbrev pub shl : ℕ → ℕ → ℕ
shl a b = a % 128 * 2 + b / 128

unfoldable pub shifted : List ℕ → List ℕ
shifted l = from 16 0 (λ i. shl (get_or l i 0) (get_or l (suc i) 0))

-- section 2.3, steps 2 and 3, of L and of K1: L << 1 where MSB(L) is 0, and otherwise (L << 1) XOR const_Rb
unfoldable pub doubled : List ℕ → List ℕ
doubled l = pick (ltb (get_or l 0 0) 128) (shifted l) (added (shifted l) rb)

-- section 2.3, K1, where E zeros is L, and K2
unfoldable pub k1 : (List ℕ → List ℕ) → List ℕ
k1 E = doubled (E zeros)

unfoldable pub k2 : (List ℕ → List ℕ) → List ℕ
k2 E = doubled (k1 E)

-- section 2.4, M_1 .. M_n: 16 bytes each, the last one what is left
unfoldable pub block_at : List ℕ → ℕ → List ℕ
block_at m i = take 16 (drop (16 * i) m)

-- section 2.4, steps 2 and 3, n: an empty message has one block, of no byte
abbrev pub blocks : ℕ → ℕ
blocks len = pick (eqb len 0) 1 ((len + 15) / 16)

-- section 2.4, padding(x): a bit 1, then bits 0 to the block's end
unfoldable pub padded : List ℕ → List ℕ
padded p = p ++ 0x80 ∷ replicate (15 - length p) 0

-- section 2.4, step 4, M_last: of a whole block, and of a shorter one
unfoldable pub last_block : (List ℕ → List ℕ) → List ℕ → List ℕ
last_block E p = pick (eqb (length p) 16) (added p (k1 E)) (added (padded p) (k2 E))

-- section 2.4, steps 5 and 6, X after i turns
unfoldable pub chain : (List ℕ → List ℕ) → List ℕ → ℕ → List ℕ
chain E m zero = zeros
chain E m (suc i) = E (added (chain E m i) (block_at m i))

-- section 2.4, steps 6 and 7, T: of M_last XOR X, after n - 1 turns
unfoldable pub tag : (List ℕ → List ℕ) → List ℕ → List ℕ
tag E m = E (added (chain E m (blocks (length m) - 1)) (last_block E (block_at m (blocks (length m) - 1))))
