-- `mesh_c::frame::put_sealed` meets its contract. Assumes nothing.
use mathlib.Core.Path.{sym, ap, ◌∙◌}
use Rattle.base.specs.Answers.{number_in}
use Rattle.packets.specs.Read.{mesh_says}
use Rattle.packets.specs.declared.mesh.MeshRead.{MeshRead}
use Rattle.mesh_c.specs.Face.{placed_left}
use Rattle.mesh_c.proofs.frame.put_sealed.Goals as goal

pub returns-in-Refused : goal.returns-in-Refused
returns-in-Refused c =
    let a = c.args in
    let e = sym c.in-Refused.is in record { answer = ap (λ (m : MeshRead). number_in (mesh_says m)) e; numbers = ap (λ (m : MeshRead). placed_left a.numbers.now (mesh_says m)) e }

pub returns-in-Mesh : goal.returns-in-Mesh
returns-in-Mesh c =
    let a = c.args in
    let e = sym c.in-Mesh.is in record { answer = ap (λ (m : MeshRead). number_in (mesh_says m)) e; numbers = c.put_place.ensures ∙ ap (λ (m : MeshRead). placed_left a.numbers.now (mesh_says m)) e }
