-- FIPS 197, section 4: the field GF(2^8). A byte is a number below 256; its bits are the coefficients of a polynomial. Addition is bit_xor.
-- Assumes nothing.
use Rattle.std.specs.Prelude.{ℕ, zero, suc, ◌+◌, ◌*◌, ◌/◌, ◌%◌}
use Rattle.std.specs.Int.Bits.{bit_xor}

-- section 4.2, XTIMES: times x, modulo x^8 + x^4 + x^3 + x + 1
unfoldable pub xtime : ℕ → ℕ
xtime b = bit_xor (b * 2 % 256) (b / 128 * 27)

-- a bit times a byte
abbrev pub bit_times : ℕ → ℕ → ℕ
bit_times zero b = 0
bit_times (suc n) b = b

-- a byte to the power of a bit
abbrev pub bit_power : ℕ → ℕ → ℕ
bit_power zero b = 1
bit_power (suc n) b = b

-- section 4.2, the product: the sum, over the lowest n bits of a, of b times that power of x
unfoldable pub mul_bits : ℕ → ℕ → ℕ → ℕ
mul_bits zero a b = 0
mul_bits (suc n) a b = bit_xor (bit_times (a % 2) b) (mul_bits n (a / 2) (xtime b))

unfoldable pub mul : ℕ → ℕ → ℕ
mul a b = mul_bits 8 a b

-- b to the power e, of at most n bits: the product, over the bits of e, of b squared as often
unfoldable pub power_bits : ℕ → ℕ → ℕ → ℕ
power_bits zero b e = 1
power_bits (suc n) b e = mul (bit_power (e % 2) b) (power_bits n (mul b b) (e / 2))

-- section 4.4: the inverse is the 254th power; that of 0 is 0
unfoldable pub inverse : ℕ → ℕ
inverse b = power_bits 8 b 254

-- the bits of a byte turned left by one place for each doubling of m
unfoldable pub spun : ℕ → ℕ → ℕ
spun m b = b * m % 256 + b * m / 256

-- section 5.1.1: bit i of the result is the sum of bits i, i+4, i+5, i+6, i+7 of b (modulo 8) and of 63
unfoldable pub affine : ℕ → ℕ
affine b = bit_xor b (bit_xor (spun 2 b) (bit_xor (spun 4 b) (bit_xor (spun 8 b) (bit_xor (spun 16 b) 99))))

unfoldable pub sbox_of : ℕ → ℕ
sbox_of b = affine (inverse b)
