-- A part of a list at a place and length. Assumes nothing.
use Rattle.std.specs.Prelude.{ℕ, ◌-◌, List, [], ltb, eqb, length, take, drop}
use Rattle.base.specs.Pick.{pick}
use Rattle.base.specs.Numbers.{outside}
use Rattle.wire.specs.declared.parts.Reach.{Reach}
use Rattle.wire.specs.declared.parts.Reach.TheVariants.{Inside, Refused}

-- 45 where the place, or the place and length together, lie beyond n; no bytes lie inside whatever their place
unfoldable pub reach_of : ℕ → ℕ → ℕ → Reach
reach_of n start len =
    pick (eqb len 0) Inside
    (pick (ltb n start) (Refused outside)
    (pick (ltb (n - start) len) (Refused outside) Inside))

-- the refusal's number, or 0
abbrev pub reach_number : Reach → ℕ
reach_number Inside = 0
reach_number (Refused n) = n

-- the part, and nothing where it is refused
unfoldable pub part_of : List ℕ → ℕ → ℕ → List ℕ
part_of s start len = pick (ltb (length s) start) [] (pick (ltb (length s - start) len) [] (take len (drop start s)))
