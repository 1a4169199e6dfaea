-- That lists hold bytes: of what lists are made of and cut into. Assumes nothing.
use Prim.Native.Nat.{ℕ, zero, suc, ◌+◌, ◌<◌}
use native.Mathlib.Omega.{arith}
use mathlib.Core.List.{List, [], ◌∷◌, ◌++◌}
use lib.ListN.{take, drop, set, replicate}
use lib.Seq.{get_or-drop}
use Rattle.base.specs.Lists.{Bytes}

pub none_lt : Bytes []
none_lt i = omega arith

pub cons_lt : (x : ℕ) (s : List ℕ) → x < 256 → Bytes s → Bytes (x ∷ s)
cons_lt x s h g zero = h
cons_lt x s h g (suc i) = g i

pub append_lt : (s t : List ℕ) → Bytes s → Bytes t → Bytes (s ++ t)
append_lt [] t h g i = g i
append_lt (x ∷ s) t h g zero = h 0
append_lt (x ∷ s) t h g (suc i) = append_lt s t (λ k. h (suc k)) g i

pub take_lt : (n : ℕ) (s : List ℕ) → Bytes s → Bytes (take n s)
take_lt zero s h i = omega arith
take_lt (suc n) [] h i = omega arith
take_lt (suc n) (x ∷ s) h zero = h 0
take_lt (suc n) (x ∷ s) h (suc i) = take_lt n s (λ k. h (suc k)) i

pub drop_lt : (n : ℕ) (s : List ℕ) → Bytes s → Bytes (drop n s)
drop_lt n s h i = rw (get_or-drop n s i 0) (h (n + i))

pub set_lt : (s : List ℕ) (n v : ℕ) → v < 256 → Bytes s → Bytes (set s n v)
set_lt [] n v l h i = h i
set_lt (x ∷ s) zero v l h zero = l
set_lt (x ∷ s) zero v l h (suc i) = h (suc i)
set_lt (x ∷ s) (suc n) v l h zero = h 0
set_lt (x ∷ s) (suc n) v l h (suc i) = set_lt s n v l (λ k. h (suc k)) i

pub zeros_lt : (n : ℕ) → Bytes (replicate n 0)
zeros_lt zero i = omega arith
zeros_lt (suc n) zero = omega arith
zeros_lt (suc n) (suc i) = zeros_lt n i
