-- `mesh_c::field::mesh_header_write` meets its contract. Assumes nothing.
use mathlib.Core.Path.{sym, ap, ◌∙◌}
use Rattle.base.specs.Answers.{number_in, left_by}
use Rattle.fields.specs.Header.{byte_says}
use Rattle.fields.specs.declared.header.HeaderByte.{HeaderByte}
use Rattle.mesh_c.specs.Face.{as_it_is}
use Rattle.mesh_c.proofs.field.mesh_header_write.Goals as goal

pub returns-in-Refused : goal.returns-in-Refused
returns-in-Refused c =
    let e = sym c.in-Refused.is ∙ c.header_byte.ensures in record { answer = ap (λ (r : HeaderByte). number_in (byte_says r)) e; b = ap (λ (r : HeaderByte). left_by as_it_is c.args.b.now (byte_says r)) e }

pub returns-in-Byte : goal.returns-in-Byte
returns-in-Byte c =
    let e = sym c.in-Byte.is ∙ c.header_byte.ensures in record { answer = ap (λ (r : HeaderByte). number_in (byte_says r)) e; b = ap (λ (r : HeaderByte). left_by as_it_is c.args.b.now (byte_says r)) e }
