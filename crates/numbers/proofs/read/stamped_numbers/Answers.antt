-- `numbers::read::stamped_numbers` meets its contract. Assumes nothing.
use Rattle.numbers.proofs.Steps.{stamped_is}
use Rattle.numbers.proofs.read.stamped_numbers.Goals as goal

pub returns : goal.returns
returns c =
    stamped_is _ c.args.mhdr c.args.has_mic _ _ _ c.args.b _ _ _ c.to_byte.ensures c.from_bool.ensures c.content_place-place.ensures
