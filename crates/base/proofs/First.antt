-- A chain of refusals that ends in none: every test of it failed. Assumes nothing.
use Prim.Native.Nat.{ℕ, suc}
use mathlib.Core.Bool.{Bool, true, false}
use mathlib.Core.Path.{◌≡◌, refl}
use native.Mathlib.Omega.{arith}
use Rattle.base.specs.Pick.{pick}

pub passed : (t : Bool) (n x : ℕ) → pick t (suc n) x ≡ 0 → (t ≡ false) × (x ≡ 0)
passed true n x e = absurd (omega arith)
passed false n x e = (refl, e)
