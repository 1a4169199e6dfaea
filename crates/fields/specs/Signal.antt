-- The bytes of rssi and snr, 5.6 and 5.7 of the rules. `pos n` is n, and `negsuc n` is -(n + 1). Assumes nothing.
use Rattle.std.specs.Prelude.{ℕ, zero, suc, ◌+◌, ◌-◌, ◌/◌, ◌%◌, List, ℤ, pos, negsuc, neg_ℤ, ltb, get_or, set}
use Rattle.base.specs.Pick.{pick}
use Rattle.base.specs.Numbers.{rssi_large, rssi_small, snr_small, snr_large}
use Rattle.base.specs.Answers.{Answer, value, number}
use Rattle.fields.specs.declared.signal.SnrRead.{SnrRead}
use Rattle.fields.specs.declared.signal.SignalByte.{SignalByte}
use Rattle.fields.specs.declared.signal.SignalByte.TheVariants.{Byte, Refused}

unfoldable pub rssi_of : ℕ → ℤ
rssi_of b = neg_ℤ (pos b)

-- the six bits of an snr byte that hold the number: so it is written, with the two odd bits above them as 0
abbrev pub even_byte : ℕ → ℕ
even_byte b = b % 64

-- the same of byte i of a list
abbrev pub even_at : List ℕ → ℕ → List ℕ
even_at b i = set b i (even_byte (get_or b i 0))

-- the number, and the odd bits as found
unfoldable pub snr_of : ℕ → SnrRead
snr_of b = record { snr = pick (ltb (even_byte b) 32) (pos (even_byte b)) (neg_ℤ (pos (64 - even_byte b))); odd = b / 64 }

-- 10 over 0, 11 under -255
unfoldable pub rssi_byte : ℤ → SignalByte
rssi_byte (pos zero) = Byte 0
rssi_byte (pos (suc n)) = Refused rssi_large
rssi_byte (negsuc n) = pick (ltb n 255) (Byte (n + 1)) (Refused rssi_small)

-- 12 under -32, 13 over 31; of -1 to -32 the six bits are 63 to 32
unfoldable pub snr_byte : ℤ → SignalByte
snr_byte (pos n) = pick (ltb n 32) (Byte n) (Refused snr_large)
snr_byte (negsuc n) = pick (ltb n 32) (Byte (63 - n)) (Refused snr_small)

abbrev pub signal_says : SignalByte → Answer ℕ
signal_says (Byte b) = value b
signal_says (Refused n) = number n
