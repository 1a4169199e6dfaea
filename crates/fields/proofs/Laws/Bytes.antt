-- That every element of a list is a byte, one after the other. Assumes nothing.
use Prim.Native.Nat.{ℕ, zero, suc, ◌<◌}
use native.Mathlib.Omega.{arith}
use mathlib.Core.List.{List, [], ◌∷◌}
use Rattle.base.specs.Lists.{Bytes}

infixr 5 ◌▸◌
pub data Small : List ℕ → Type 0 where
  none : Small []
  ◌▸◌ : {x : ℕ} {s : List ℕ} → x < 256 → Small s → Small (x ∷ s)

pub small : {s : List ℕ} → Small s → Bytes s
small none i = omega arith
small (h ▸ r) zero = h
small (h ▸ r) (suc i) = small r i
