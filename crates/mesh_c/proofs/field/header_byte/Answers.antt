-- `mesh_c::field::header_byte` meets its contract. Assumes nothing.
use mathlib.Core.Path.{sym, ap, ◌∙◌}
use Rattle.mesh_c.specs.Face.{header_byte_by}
use Rattle.mesh_c.proofs.field.header_byte.Goals as goal

pub returns-in-Refused : goal.returns-in-Refused
returns-in-Refused c =
    ap (header_byte_by c.args.hop_count) (sym c.in-Refused.is ∙ c.from_byte.ensures)

pub returns-in-Kind : goal.returns-in-Kind
returns-in-Kind c =
    c.to_byte.ensures ∙ ap (header_byte_by c.args.hop_count) (sym c.in-Kind.is ∙ c.from_byte.ensures)
