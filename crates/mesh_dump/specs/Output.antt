-- What mesh-dump prints for an input: the text of each of its lines, or that it is too long. Assumes nothing.
use Rattle.std.specs.Prelude.{ℕ, ◌≤◌, ◌<◌, ◌≡◌, List, [], ◌∷◌, ◌++◌, ltb, eqb, length, take, drop}
use Rattle.base.specs.Pick.{pick}
use Rattle.base.specs.Lists.{joined}
use Rattle.dump.specs.Ascii.{ascii}
use Rattle.dump.specs.Dump.{line_text}

-- the lines of l, which has no newline, and s behind it: each ends before a newline, and the last may lack its own
unfoldable pub lines_from : List ℕ → List ℕ → List (List ℕ)
lines_from l [] = pick (eqb (length l) 0) [] (l ∷ [])
lines_from l (x ∷ s) = pick (eqb x 10) (l ∷ lines_from [] s) (lines_from (l ++ (x ∷ [])) s)

abbrev pub lines_of : List ℕ → List (List ℕ)
lines_of s = lines_from [] s

-- a line's text and a newline
unfoldable pub line_out : List ℕ → List ℕ
line_out l = line_text l ++ (10 ∷ [])

unfoldable pub dump_of : List ℕ → List ℕ
dump_of s = joined line_out (lines_of s)

abbrev pub too_long : List ℕ
too_long = ascii "input too long\n"

-- all that is printed
unfoldable pub printed : List ℕ → List ℕ
printed s = pick (ltb 65536 (length s)) too_long (dump_of s)

-- ---- a bufferful at a time

-- s up to its first newline
unfoldable pub first_line : List ℕ → List ℕ
first_line [] = []
first_line (x ∷ s) = pick (eqb x 10) [] (x ∷ first_line s)

-- what is still to be printed where the lines before a place of s were: all of it at 0, and nothing from the end on
unfoldable pub left_of : List ℕ → ℕ → List ℕ
left_of s n = pick (ltb 65536 (length s)) (pick (ltb n (length s)) too_long []) (dump_of (drop n s))

-- out holds, in its first len bytes, what is left at one place and no more at the next
pub record Filling (left : ℕ → List ℕ) (from : ℕ) (out : List ℕ) (len next : ℕ) : Type 0 where
  pub within : len ≤ length out
  pub whole : left from ≡ take len out ++ left next
  pub moves : from < next
