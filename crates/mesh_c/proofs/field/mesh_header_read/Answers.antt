-- `mesh_c::field::mesh_header_read` meets its contract. Assumes nothing.
use mathlib.Core.Path.{refl, sym, ap, ap₂, ◌∙◌}
use mathlib.Core.List.{◌∷◌}
use Rattle.base.specs.Answers.{number_in, left_by}
use Rattle.fields.specs.Header.{header_says}
use Rattle.fields.specs.declared.header.HeaderRead.{HeaderRead}
use Rattle.mesh_c.specs.Face.{header_list}
use Rattle.mesh_c.proofs.field.mesh_header_read.Goals as goal

pub returns-in-Refused : goal.returns-in-Refused
returns-in-Refused c =
    let e = sym c.in-Refused.is ∙ c.from_byte.ensures in record { answer = ap (λ (r : HeaderRead). number_in (header_says r)) e; header = ap (λ (r : HeaderRead). left_by header_list c.args.header.now (header_says r)) e }

pub returns-in-Header : goal.returns-in-Header
returns-in-Header c =
    let e = sym c.in-Header.is ∙ c.from_byte.ensures in record { answer = ap (λ (r : HeaderRead). number_in (header_says r)) e; header = ap₂ ◌∷◌ c.to_byte.ensures refl ∙ ap (λ (r : HeaderRead). left_by header_list c.args.header.now (header_says r)) e }
