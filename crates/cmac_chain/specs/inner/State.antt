-- CMAC of a message that comes in pieces. The state is the chain's block X with the bytes in hand already added to it, and their count.
-- `finish_tag` and `pieces` of proofs/Laws.antt show that it gives RFC 4493's tag. Assumes nothing.
use Rattle.std.specs.Prelude.{ℕ, ◌+◌, List, ltb, get_or, set}
use Rattle.std.specs.Int.Bits.{bit_xor}
use Rattle.base.specs.Pick.{pick}
use Rattle.base.specs.Lists.{added}
use Rattle.cmac_chain.specs.Cmac.{zeros, k1, k2}
use Rattle.cmac_chain.specs.declared.Mac.{Mac}

-- b added to the byte at n
abbrev pub added_at : List ℕ → ℕ → ℕ → List ℕ
added_at x n b = set x n (bit_xor (get_or x n 0) b)

unfoldable pub begun : Mac
begun = record { x = zeros; count = 0 }

-- a byte into the block in hand; into a full one none
unfoldable pub fill1 : Mac → ℕ → Mac
fill1 m b = pick (ltb m.count 16) (record { x = added_at m.x m.count b; count = m.count + 1 }) m

-- one byte more. A full block is enciphered only when a byte follows it, so that the last block is in hand at the end
unfoldable pub absorb1 : (List ℕ → List ℕ) → Mac → ℕ → Mac
absorb1 E m b =
    pick (ltb m.count 16) (record { x = added_at m.x m.count b; count = m.count + 1 })
    (record { x = added_at (E m.x) 0 b; count = 1 })

-- the padding's zeros change nothing, so its bit 1 is all that is added
unfoldable pub finished : (List ℕ → List ℕ) → Mac → List ℕ
finished E m =
    pick (ltb m.count 16) (E (added (added_at m.x m.count 0x80) (k2 E)))
    (E (added m.x (k1 E)))
