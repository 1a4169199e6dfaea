-- `numbers::read::downlink_numbers` meets its contract. Assumes nothing.
use mathlib.Core.Path.{refl, ap₂}
use mathlib.Core.List.{◌∷◌}
use Rattle.numbers.specs.Numbers.{mesh_numbers}
use Rattle.numbers.proofs.read.downlink_numbers.Goals as goal

pub returns : goal.returns
unfolding mesh_numbers
returns c =
    ap₂ ◌∷◌ refl (ap₂ ◌∷◌ c.to_byte.ensures (ap₂ ◌∷◌ refl (ap₂ ◌∷◌ c.from_bool.ensures refl)))
