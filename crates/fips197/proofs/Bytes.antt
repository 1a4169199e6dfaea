-- Of bytes, each step of AES gives bytes, and the whole a block. Assumes nothing.
use mathlib.Core.Path.{refl}
use mathlib.Core.List.{List}
use Prim.Native.Nat.{ℕ, zero, suc, ◌+◌, ◌*◌, ◌/◌, ◌%◌, ◌<◌}
use lib.Bits.{bit_xor, xor_lt}
use lib.Dec.{lit<}
use Rattle.base.specs.Lists.{Bytes}
use Rattle.base.specs.Blocks.{Block}
use Rattle.base.proofs.Lists.{from_lt}
use Rattle.fips197.specs.Field.{mul, sbox_of}
use Rattle.fips197.specs.Aes.{state, at, sub_bytes, shift_rows, mixed, mix_columns, add_round_key, rcon, in_row0, key_byte, next_key, round_key, round, last_round, rounds, aes}
use Rattle.fips197.proofs.Field.{xtime_lt, mul_lt}
use Rattle.fips197.proofs.Table.{sbox_lt}

state_lt : (f : ℕ → ℕ → ℕ) → ((r c : ℕ) → f r c < 256) → Bytes (state f)
state_lt f h = from_lt 16 0 (λ i. f (i % 4) (i / 4)) (λ i. h (i % 4) (i / 4))

mixed_lt : (a b c d : ℕ) → a < 256 → b < 256 → c < 256 → d < 256 → mixed a b c d < 256
unfolding mixed
mixed_lt a b c d ha hb hc hd =
    xor_lt 8 (mul 2 a) (bit_xor (mul 3 b) (bit_xor c d)) (mul_lt 2 a ha)
    (xor_lt 8 (mul 3 b) (bit_xor c d) (mul_lt 3 b hb) (xor_lt 8 c d hc hd))

module _ (s : List ℕ) (h : Bytes s) where
  pub sub_lt : Bytes (sub_bytes s)
  unfolding sub_bytes
  sub_lt = state_lt (λ r c. sbox_of (at s r c)) (λ r c. sbox_lt (at s r c) (h (r + 4 * c)))

  pub shift_lt : Bytes (shift_rows s)
  unfolding shift_rows
  shift_lt = state_lt (λ r c. at s r ((c + r) % 4)) (λ r c. h (r + 4 * ((c + r) % 4)))

  pub mix_lt : Bytes (mix_columns s)
  unfolding mix_columns
  mix_lt =
      state_lt (λ r c. mixed (at s r c) (at s ((r + 1) % 4) c) (at s ((r + 2) % 4) c) (at s ((r + 3) % 4) c))
      (λ r c.
      mixed_lt (at s r c) (at s ((r + 1) % 4) c) (at s ((r + 2) % 4) c) (at s ((r + 3) % 4) c) (h (r + 4 * c)) (h ((r + 1) % 4 + 4 * c))
      (h ((r + 2) % 4 + 4 * c)) (h ((r + 3) % 4 + 4 * c)))

  pub add_lt : (k : List ℕ) → Bytes k → Bytes (add_round_key s k)
  unfolding add_round_key
  add_lt k hk =
      state_lt (λ r c. bit_xor (at s r c) (at k r c)) (λ r c. xor_lt 8 (at s r c) (at k r c) (h (r + 4 * c)) (hk (r + 4 * c)))

pub round_lt : (k s : List ℕ) → Bytes k → Bytes s → Bytes (round k s)
unfolding round
round_lt k s hk hs =
    add_lt (mix_columns (shift_rows (sub_bytes s))) (mix_lt (shift_rows (sub_bytes s)) (shift_lt (sub_bytes s) (sub_lt s hs))) k hk

pub last_lt : (k s : List ℕ) → Bytes k → Bytes s → Bytes (last_round k s)
unfolding last_round
last_lt k s hk hs = add_lt (shift_rows (sub_bytes s)) (shift_lt (sub_bytes s) (sub_lt s hs)) k hk

-- the round keys
pub rcon_lt : (j : ℕ) → rcon j < 256
unfolding rcon
rcon_lt zero = lit< tt
rcon_lt (suc j) = xtime_lt (rcon j) (rcon_lt j)

row0_lt : (r v : ℕ) → v < 256 → in_row0 r v < 256
row0_lt zero v h = h
row0_lt (suc r) v h = lit< tt

module _ (v : ℕ) (k : List ℕ) (hv : v < 256) (hk : Bytes k) where
  pub key_byte_lt : (r c : ℕ) → key_byte v k r c < 256
  key_byte_lt r zero =
      let x = sbox_of (at k ((r + 1) % 4) 3) in
      xor_lt 8 (at k r 0) (bit_xor x (in_row0 r v)) (hk (r + 4 * 0))
      (xor_lt 8 x (in_row0 r v) (sbox_lt (at k ((r + 1) % 4) 3) (hk ((r + 1) % 4 + 4 * 3))) (row0_lt r v hv))
  key_byte_lt r (suc c) = xor_lt 8 (at k r (suc c)) (key_byte v k r c) (hk (r + 4 * suc c)) (key_byte_lt r c)

  pub next_lt : Bytes (next_key v k)
  unfolding next_key
  next_lt = state_lt (λ r c. key_byte v k r c) key_byte_lt

module _ (key : List ℕ) (hk : Bytes key) where
  pub round_key_lt : (j : ℕ) → Bytes (round_key key j)
  unfolding round_key
  round_key_lt zero = hk
  round_key_lt (suc j) = next_lt (rcon j) (round_key key j) (rcon_lt j) (round_key_lt j)

  pub rounds_lt : (s : List ℕ) → Bytes s → (j : ℕ) → Bytes (rounds key j s)
  unfolding rounds
  rounds_lt s h zero = h
  rounds_lt s h (suc j) = round_lt (round_key key (suc j)) (rounds key j s) (round_key_lt (suc j)) (rounds_lt s h j)

  pub aes_block : (s : List ℕ) → Bytes s → Block (aes key s)
  unfolding aes last_round add_round_key
  aes_block s h =
      record {
        long = refl;
        small = last_lt (round_key key 10) (rounds key 9 (add_round_key s key)) (round_key_lt 10) (rounds_lt (add_round_key s key) (add_lt s h key hk) 9);
      }
