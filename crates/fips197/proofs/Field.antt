-- The product in GF(2^8): that of bytes is a byte, and that of a byte and its inverse is 1. Assumes nothing.
use Prim.Native.Nat.{ℕ, zero, suc, ◌*◌, ◌/◌, ◌%◌, ◌<◌}
use native.Mathlib.Omega.{arith}
use mathlib.Core.Bool.{Bool, true}
use mathlib.Core.Path.{◌≡◌, refl}
use lib.Bits.{xor_lt}
use lib.Dec.{eqb}
use borrow.Author.Tests.{eqb-true}
use Rattle.std.proofs.lemmas.Bool.{agree_below, agree_below_at}
use Rattle.fips197.specs.Field.{xtime, bit_times, mul_bits, mul, power_bits, inverse}

pub xtime_lt : (a : ℕ) → a < 256 → xtime a < 256
unfolding xtime
xtime_lt a h = xor_lt 8 (a * 2 % 256) (a / 128 * 27) (omega arith) (omega arith)

bit_lt : (n b : ℕ) → b < 256 → bit_times n b < 256
bit_lt zero b h = omega arith
bit_lt (suc n) b h = h

bits_lt : (n a b : ℕ) → b < 256 → mul_bits n a b < 256
unfolding mul_bits
bits_lt zero a b h = omega arith
bits_lt (suc n) a b h =
    xor_lt 8 (bit_times (a % 2) b) (mul_bits n (a / 2) (xtime b)) (bit_lt (a % 2) b h) (bits_lt n (a / 2) (xtime b) (xtime_lt b h))

pub mul_lt : (a b : ℕ) → b < 256 → mul a b < 256
unfolding mul
mul_lt a b h = bits_lt 8 a b h

-- section 4.4's inverse, at every byte but 0, by one computation
inverts : ℕ → Bool
inverts zero = true
inverts (suc b) = eqb (mul (suc b) (inverse (suc b))) 1

all_invert : agree_below inverts (λ _. true) 256 ≡ true
unfolding inverts xtime mul_bits mul power_bits inverse
all_invert = refl

pub times_inverse : (b : ℕ) → 0 < b → b < 256 → mul b (inverse b) ≡ 1
unfolding inverts
times_inverse zero l h = absurd (omega arith)
times_inverse (suc b) l h = eqb-true (mul (suc b) (inverse (suc b))) 1 (agree_below_at inverts (λ _. true) 256 (suc b) all_invert h)

pub inverse_of_0 : inverse 0 ≡ 0
unfolding xtime mul_bits mul power_bits inverse
inverse_of_0 = refl
