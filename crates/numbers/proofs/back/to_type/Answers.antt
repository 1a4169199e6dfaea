-- `numbers::back::to_type` meets its contract. Assumes nothing.
use mathlib.Core.Path.{ap, ◌∙◌}
use Rattle.fields.specs.Header.{type_read}
use Rattle.numbers.proofs.Laws.{type_most_lem}
use Rattle.numbers.proofs.back.to_type.Goals as goal

pub returns : goal.returns
returns c =
    c.from_byte.ensures ∙ ap type_read c.to_u8.ensures ∙ type_most_lem _
