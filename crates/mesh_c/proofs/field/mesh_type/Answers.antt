-- `mesh_c::field::mesh_type` meets its contract. Assumes nothing.
use mathlib.Core.Path.{sym, ap, ◌∙◌}
use Rattle.base.specs.Answers.{number_in}
use Rattle.fields.specs.Header.{type_says}
use Rattle.fields.specs.declared.header.TypeRead.{TypeRead}
use Rattle.mesh_c.proofs.field.mesh_type.Goals as goal

pub returns-in-Kind : goal.returns-in-Kind
returns-in-Kind c = ap (λ (r : TypeRead). number_in (type_says r)) (sym c.in-Kind.is ∙ c.from_byte.ensures)

pub returns-in-Refused : goal.returns-in-Refused
returns-in-Refused c = ap (λ (r : TypeRead). number_in (type_says r)) (sym c.in-Refused.is ∙ c.from_byte.ensures)
