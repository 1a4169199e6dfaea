-- Lists by their index, bytes, the exclusive or of lists, and what is made of each element in turn. Assumes nothing.
use Rattle.std.specs.Prelude.{ℕ, zero, suc, ◌<◌, List, [], ◌∷◌, ◌++◌, get_or}
use Rattle.std.specs.Int.Bits.{bit_xor}

-- f i, f (i + 1), .. n of them
abbrev pub from : {A : Type 0} → ℕ → ℕ → (ℕ → A) → List A
from zero i f = []
from (suc n) i f = f i ∷ from n (suc i) f

-- every element is a byte
abbrev pub Bytes : List ℕ → Type 0
Bytes s = (i : ℕ) → get_or s i 0 < 256

-- p added, by exclusive or, to the front of x
unfoldable pub added : List ℕ → List ℕ → List ℕ
added [] p = []
added (a ∷ x) [] = a ∷ x
added (a ∷ x) (b ∷ p) = bit_xor a b ∷ added x p

-- each element by its place, the first of which is i
abbrev pub imap : (ℕ → ℕ → ℕ) → ℕ → List ℕ → List ℕ
imap f i [] = []
imap f i (x ∷ s) = f i x ∷ imap f (suc i) s

-- the first refusal, 0 for none
abbrev pub or_else : ℕ → ℕ → ℕ
or_else zero n = n
or_else (suc k) n = suc k

-- the first refusal of a list's elements
unfoldable pub first_of : {A : Type 0} → (A → ℕ) → List A → ℕ
first_of f [] = 0
first_of f (x ∷ xs) = or_else (f x) (first_of f xs)

-- what each element gives, one after the other
unfoldable pub joined : {A : Type 0} → (A → List ℕ) → List A → List ℕ
joined f [] = []
joined f (x ∷ xs) = f x ++ joined f xs
