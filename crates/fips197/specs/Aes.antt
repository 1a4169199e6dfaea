-- FIPS 197, section 5: AES-128 on lists of 16 bytes. Byte r + 4 * c of a list is row r, column c of the state. Assumes nothing.
use Rattle.std.specs.Prelude.{ℕ, zero, suc, ◌+◌, ◌*◌, ◌/◌, ◌%◌, List, get_or}
use Rattle.std.specs.Int.Bits.{bit_xor}
use Rattle.base.specs.Lists.{from}
use Rattle.fips197.specs.Field.{mul, xtime, sbox_of}

-- the state whose byte in row r and column c is f r c
abbrev pub state : (ℕ → ℕ → ℕ) → List ℕ
state f = from 16 0 (λ i. f (i % 4) (i / 4))

abbrev pub at : List ℕ → ℕ → ℕ → ℕ
at s r c = get_or s (r + 4 * c) 0

-- section 5.1.1, and its table 4
unfoldable pub sub_bytes : List ℕ → List ℕ
sub_bytes s = state (λ r c. sbox_of (at s r c))

unfoldable pub sbox_table : List ℕ
sbox_table = from 256 0 sbox_of

-- section 5.1.2
unfoldable pub shift_rows : List ℕ → List ℕ
shift_rows s = state (λ r c. at s r ((c + r) % 4))

-- section 5.1.3, one byte of a column: 2 a + 3 b + c + d
unfoldable pub mixed : ℕ → ℕ → ℕ → ℕ → ℕ
mixed a b c d = bit_xor (mul 2 a) (bit_xor (mul 3 b) (bit_xor c d))

unfoldable pub mix_columns : List ℕ → List ℕ
mix_columns s = state (λ r c. mixed (at s r c) (at s ((r + 1) % 4) c) (at s ((r + 2) % 4) c) (at s ((r + 3) % 4) c))

-- section 5.1.4
unfoldable pub add_round_key : List ℕ → List ℕ → List ℕ
add_round_key s k = state (λ r c. bit_xor (at s r c) (at k r c))

-- section 5.2, Rcon: the powers of x, from Rcon 1 = 1
unfoldable pub rcon : ℕ → ℕ
rcon zero = 1
rcon (suc j) = xtime (rcon j)

abbrev pub in_row0 : ℕ → ℕ → ℕ
in_row0 zero v = v
in_row0 (suc r) v = 0

-- section 5.2, at Nk = 4: column c of the round key after k. The first is k's first with SubWord of RotWord of k's last, and Rcon in row 0;
-- each other is k's, added to the one before it
abbrev pub key_byte : ℕ → List ℕ → ℕ → ℕ → ℕ
key_byte v k r zero = bit_xor (at k r 0) (bit_xor (sbox_of (at k ((r + 1) % 4) 3)) (in_row0 r v))
key_byte v k r (suc c) = bit_xor (at k r (suc c)) (key_byte v k r c)

unfoldable pub next_key : ℕ → List ℕ → List ℕ
next_key v k = state (λ r c. key_byte v k r c)

unfoldable pub round_key : List ℕ → ℕ → List ℕ
round_key key zero = key
round_key key (suc j) = next_key (rcon j) (round_key key j)

-- section 5.1, Cipher
unfoldable pub round : List ℕ → List ℕ → List ℕ
round k s = add_round_key (mix_columns (shift_rows (sub_bytes s))) k

unfoldable pub last_round : List ℕ → List ℕ → List ℕ
last_round k s = add_round_key (shift_rows (sub_bytes s)) k

unfoldable pub rounds : List ℕ → ℕ → List ℕ → List ℕ
rounds key zero s = s
rounds key (suc j) s = round (round_key key (suc j)) (rounds key j s)

unfoldable pub aes : List ℕ → List ℕ → List ℕ
aes key s = last_round (round_key key 10) (rounds key 9 (add_round_key s key))
