-- What a call answers, by values or a refusal's number, and what a writer answers and leaves. Assumes nothing.
use Rattle.std.specs.Prelude.{ℕ, List, ◌++◌, ltb, eqb, length, drop, replicate}
use Rattle.base.specs.Pick.{pick}
use Rattle.base.specs.Numbers.{output_short}
use Rattle.base.specs.declared.Written.{Written}
use Rattle.base.specs.declared.Written.TheVariants.{Bytes, Refused}
use Rattle.base.specs.declared.Checked.{Checked}
use Rattle.base.specs.declared.Checked.TheVariants as checked

-- the values, or the refusal's number
pub data Answer (A : Type 0) : Type 0 where
  value : A → Answer A
  number : ℕ → Answer A

-- how many bytes were written, or the number
abbrev pub written_says : Written → Answer ℕ
written_says (Bytes n) = value n
written_says (Refused n) = number n

-- what stands beside the answer, or the number
abbrev pub checked_says : {A : Type 0} → Checked → A → Answer A
checked_says checked.Accepted a = value a
checked_says (checked.Refused n) a = number n

-- the number of a refusal, and 0 where there is none
abbrev pub checked_number : Checked → ℕ
checked_number checked.Accepted = 0
checked_number (checked.Refused n) = n

abbrev pub number_in : {A : Type 0} → Answer A → ℕ
number_in (value a) = 0
number_in (number n) = n

-- what a call leaves where it stores what it answers: all as it was when it refuses
abbrev pub left_by : {A : Type 0} → {B : Type 0} → (A → B) → B → Answer A → B
left_by f old (value a) = f a
left_by f old (number n) = old

-- what is to be written, or the first refusal
pub data Writing : Type 0 where
  bytes : List ℕ → Writing
  refused : ℕ → Writing

-- the refusal's number, 0 for none
abbrev pub frame_number : Writing → ℕ
frame_number (bytes w) = 0
frame_number (refused n) = n

-- what follows a chain of tests that ends in a number, where that is 0
abbrev pub unless_refused : ℕ → Writing → Writing
unless_refused n f = pick (eqb n 0) f (refused n)

-- of a call that makes an array: the answer, and beside it the bytes, or n zeros where it refuses
abbrev pub checked_of : Writing → Checked
checked_of (bytes w) = checked.Accepted
checked_of (refused n) = checked.Refused n

abbrev pub bytes_or : ℕ → Writing → List ℕ
bytes_or n (bytes w) = w
bytes_or n (refused k) = replicate n 0

-- what a writer answers: 21 comes last, where the output has too few places
unfoldable pub answer_of : Writing → List ℕ → Written
answer_of (refused n) out = Refused n
answer_of (bytes w) out = pick (ltb (length out) (length w)) (Refused output_short) (Bytes (length w))

-- what it leaves in the output: all as before when it refuses, and otherwise all beyond what is written
unfoldable pub out_of : Writing → List ℕ → List ℕ
out_of (refused n) out = out
out_of (bytes w) out = pick (ltb (length out) (length w)) out (w ++ drop (length w) out)
