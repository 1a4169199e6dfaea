-- `numbers::back::put_place` meets its contract. Assumes nothing.
use mathlib.Core.Path.{ap}
use Rattle.numbers.specs.Numbers.{place_set}
use Rattle.numbers.proofs.back.put_place.Goals as goal

pub returns : goal.returns
returns c =
    ap (place_set c.args.numbers.now) c.place_of-place.ensures
