-- Hex text. Bytes are written as their numbers in ASCII: 48 to 57 are 0 to 9, 65 to 70 A to F, 97 to 102 a to f. Assumes nothing.
use Rattle.std.specs.Prelude.{ℕ, ◌+◌, ◌-◌, ◌*◌, ◌/◌, ◌%◌, Bool, true, false, List, [], ◌∷◌, ltb}
use Rattle.base.specs.Pick.{pick}

-- the value of a digit, in either case; 16 of any other byte
unfoldable pub nibble_of : ℕ → ℕ
nibble_of b =
    pick (ltb b 48) 16
    (pick (ltb b 58) (b - 48)
    (pick (ltb b 65) 16
    (pick (ltb b 71) (b - 65 + 10)
    (pick (ltb b 97) 16
    (pick (ltb b 103) (b - 97 + 10) 16)))))

-- the digit of a value, in lower case
unfoldable pub digit_of : ℕ → ℕ
digit_of n = pick (ltb n 10) (48 + n) (97 + (n - 10))

-- a digit from A to F in lower case, and any other byte as it is
abbrev pub lower : ℕ → ℕ
lower b = pick (ltb b 65) b (pick (ltb b 71) (b + 32) b)

-- every byte is a digit
unfoldable pub all_hex : List ℕ → Bool
all_hex [] = true
all_hex (b ∷ s) = pick (ltb (nibble_of b) 16) (all_hex s) false

-- the byte of two digits (what is no digit counts as 0: `all_hex` is asked first)
unfoldable pub pair_of : ℕ → ℕ → ℕ
pair_of a b = nibble_of a % 16 * 16 + nibble_of b % 16

-- the bytes of a text, two digits each
unfoldable pub unhex : List ℕ → List ℕ
unhex [] = []
unhex (a ∷ []) = []
unhex (a ∷ b ∷ s) = pair_of a b ∷ unhex s

-- the text of bytes
unfoldable pub hex_text : List ℕ → List ℕ
hex_text [] = []
hex_text (b ∷ s) = digit_of (b / 16 % 16) ∷ digit_of (b % 16) ∷ hex_text s
