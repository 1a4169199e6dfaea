-- A number's digits as the code spells them. Assumes nothing.
use Rattle.std.specs.Prelude.{ℕ, ◌-◌, ◌++◌, length, replicate}
use Rattle.dump.specs.Dump.{decimal}
use Rattle.dump.specs.declared.digits.Digits.{Digits}

-- the digits of n at the end of ten bytes
abbrev pub digits_of : ℕ → Digits
digits_of n = record { bytes = replicate (10 - length (decimal n)) 0 ++ decimal n; start = 10 - length (decimal n) }
