-- What the functions inside cite: a sum that may be over.
-- Assumes nothing.
use Rattle.std.specs.Prelude.{ℕ, ◌+◌, ltb}
use Rattle.base.specs.Pick.{pick}
use Rattle.base.specs.Numbers.{frame_most}
use Rattle.composed_items.specs.declared.Total.{Total}
use Rattle.composed_items.specs.declared.Total.TheVariants.{Sum, Over}

unfoldable pub total_of : ℕ → ℕ → Total
total_of most n = pick (ltb most n) Over (Sum n)

-- a length, and for any that no frame has the first of these
abbrev pub capped : ℕ → ℕ
capped n = pick (ltb frame_most n) (frame_most + 1) n
