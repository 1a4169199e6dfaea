-- What src/lib.rt lays out and works out, by columns. It is no definition of AES: proofs/Bridge.antt shows that it gives what Aes.antt
-- does, and no contract of a key speaks of it. Assumes nothing.
use Rattle.std.specs.Prelude.{ℕ, zero, suc, ◌+◌, ◌-◌, ◌*◌, ◌/◌, ◌%◌, ◌^◌, List, [], ◌∷◌, ◌++◌, get_or}
use Rattle.std.specs.Int.Bits.{bit_xor}
use Rattle.base.specs.Lists.{from}
use Rattle.wire.specs.Number.{be_of, be_bytes}
use Rattle.cipher.specs.declared.Cols.{Cols}
use Rattle.fips197.specs.Field.{mul, sbox_of}
use Rattle.fips197.specs.Aes.{state, at, rcon}

abbrev pub word : ℕ → ℕ → ℕ → ℕ → ℕ
word a b c d = be_of (a ∷ b ∷ c ∷ d ∷ [])

-- byte r of a word
unfoldable pub byte_of : ℕ → ℕ → ℕ
byte_of r x = get_or (be_bytes 4 x) r 0

-- column c of a state
unfoldable pub col : List ℕ → ℕ → ℕ
col s c = word (at s 0 c) (at s 1 c) (at s 2 c) (at s 3 c)

unfoldable pub loaded : List ℕ → Cols
loaded s = record { a = col s 0; b = col s 1; c = col s 2; d = col s 3 }

abbrev pub col_of : Cols → ℕ → ℕ
col_of s zero = s.a
col_of s (suc zero) = s.b
col_of s (suc (suc zero)) = s.c
col_of s (suc (suc (suc n))) = s.d

unfoldable pub bytes_of : Cols → List ℕ
bytes_of s = state (λ r c. byte_of r (col_of s c))

-- the table: what byte x brings to its column in a round, by SubBytes and the first column of MixColumns' matrix
unfoldable pub te_word : ℕ → ℕ
te_word x = word (mul 2 (sbox_of x)) (sbox_of x) (sbox_of x) (mul 3 (sbox_of x))

unfoldable pub te_table : List ℕ
te_table = from 256 0 te_word

-- the columns of a key
unfoldable pub key_words : List ℕ → List ℕ
key_words key = from 4 0 (col key)

unfoldable pub prepared : List ℕ → List ℕ
prepared key = te_table ++ key_words key

-- a word turned right by k bytes
unfoldable pub turned : ℕ → ℕ → ℕ
turned k x = x / 256 ^ k + x % 256 ^ k * 256 ^ (4 - k)

-- over what was laid out, e: the table first, the key's columns from 256 on
unfoldable pub sub : List ℕ → ℕ → ℕ
sub e x = byte_of 1 (get_or e x 0)

unfoldable pub first_key : List ℕ → Cols
first_key e = record { a = get_or e 256 0; b = get_or e 257 0; c = get_or e 258 0; d = get_or e 259 0 }

-- the first column of the round key after k, from k's first and last, and its constant v
unfoldable pub first_col : List ℕ → ℕ → ℕ → ℕ → ℕ
first_col e v a d = bit_xor a (word (bit_xor (sub e (byte_of 1 d)) v) (sub e (byte_of 2 d)) (sub e (byte_of 3 d)) (sub e (byte_of 0 d)))

abbrev pub cols_from : ℕ → ℕ → ℕ → ℕ → Cols
cols_from a b c d = record { a = a; b = bit_xor b a; c = bit_xor c (bit_xor b a); d = bit_xor d (bit_xor c (bit_xor b a)) }

-- the round key after k
unfoldable pub next_cols : List ℕ → ℕ → Cols → Cols
next_cols e v k = cols_from (first_col e v k.a k.d) k.b k.c k.d

-- the key of round j, each from the last
unfoldable pub key_cols : List ℕ → ℕ → Cols
key_cols e zero = first_key e
key_cols e (suc j) = next_cols e (rcon j) (key_cols e j)

-- a column of a round, from the four columns that hold its bytes, and the round key's column
unfoldable pub column : List ℕ → ℕ → ℕ → ℕ → ℕ → ℕ → ℕ
column e a b c d k =
    bit_xor (get_or e (byte_of 0 a) 0)
    (bit_xor (turned 1 (get_or e (byte_of 1 b) 0))
    (bit_xor (turned 2 (get_or e (byte_of 2 c) 0)) (bit_xor (turned 3 (get_or e (byte_of 3 d) 0)) k)))

-- and of the last
unfoldable pub last_column : List ℕ → ℕ → ℕ → ℕ → ℕ → ℕ → ℕ
last_column e a b c d k = bit_xor (word (sub e (byte_of 0 a)) (sub e (byte_of 1 b)) (sub e (byte_of 2 c)) (sub e (byte_of 3 d))) k

unfoldable pub keyed : Cols → Cols → Cols
keyed k s = record { a = bit_xor s.a k.a; b = bit_xor s.b k.b; c = bit_xor s.c k.c; d = bit_xor s.d k.d }

unfoldable pub stepped : List ℕ → Cols → Cols → Cols
stepped e k s =
    record {
      a = column e s.a s.b s.c s.d k.a;
      b = column e s.b s.c s.d s.a k.b;
      c = column e s.c s.d s.a s.b k.c;
      d = column e s.d s.a s.b s.c k.d;
    }

unfoldable pub last_stepped : List ℕ → Cols → Cols → Cols
last_stepped e k s =
    record {
      a = last_column e s.a s.b s.c s.d k.a;
      b = last_column e s.b s.c s.d s.a k.b;
      c = last_column e s.c s.d s.a s.b k.c;
      d = last_column e s.d s.a s.b s.c k.d;
    }

unfoldable pub steps : List ℕ → ℕ → Cols → Cols
steps e zero s = s
steps e (suc i) s = stepped e (key_cols e (suc i)) (steps e i s)

unfoldable pub enciphered : List ℕ → List ℕ → List ℕ
enciphered e s = bytes_of (last_stepped e (key_cols e 10) (steps e 9 (keyed (key_cols e 0) (loaded s))))
