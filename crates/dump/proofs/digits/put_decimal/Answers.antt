-- `dump::digits::put_decimal` meets its contract. Assumes nothing.
use mathlib.Core.Path.{ap, ◌∙◌}
use Rattle.wire.specs.Lay.{put}
use Rattle.dump.proofs.Laws.Decimal.{digits_start, digits_part}
use Rattle.dump.proofs.digits.put_decimal.Goals as goal

pub overflow_sub-d : goal.overflow_sub-d
overflow_sub-d c = digits_start _ _ c.digits_of-d.ensures

pub returns : goal.returns
returns c = c.put_all.ensures ∙ ap (put c.args.out.now c.args.at) (c.part.ensures ∙ digits_part _ _ c.digits_of-d.ensures)
