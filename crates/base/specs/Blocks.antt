-- Blocks of 16 bytes, and functions on them, as a block cipher under a key is one. Assumes nothing.
use Rattle.std.specs.Prelude.{ℕ, ◌≡◌, List, length}
use Rattle.base.specs.Lists.{Bytes}

pub record Block (b : List ℕ) : Type 0 where
  pub long : length b ≡ 16
  pub small : Bytes b

-- E and F give the same of each block, and it is a block
pub record Agree (E F : List ℕ → List ℕ) : Type 0 where
  pub same : (b : List ℕ) → Block b → E b ≡ F b
  pub block : (b : List ℕ) → Block b → Block (E b)
