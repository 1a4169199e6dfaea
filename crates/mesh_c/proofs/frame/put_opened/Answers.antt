-- `mesh_c::frame::put_opened` meets its contract. Assumes nothing.
use mathlib.Core.Path.{sym, ap, ◌∙◌}
use Rattle.sealing.specs.Mesh.{mesh_opened_says}
use Rattle.sealing.specs.declared.mesh.MeshOpened.{MeshOpened}
use Rattle.mesh_c.specs.Face.{opened_number, opened_left, counts_left}
use Rattle.mesh_c.proofs.frame.put_opened.Goals as goal

pub returns-in-Refused : goal.returns-in-Refused
returns-in-Refused c =
    let a = c.args in
    let e = sym c.in-Refused.is in record { answer = ap (λ (x : MeshOpened). opened_number (mesh_opened_says x)) e; numbers = ap (λ (x : MeshOpened). opened_left a.numbers.now (mesh_opened_says x)) e; counts = ap (λ (x : MeshOpened). counts_left a.counts.now (mesh_opened_says x)) e }

pub returns-in-AlreadyOpen : goal.returns-in-AlreadyOpen
returns-in-AlreadyOpen c =
    let a = c.args in
    let e = sym c.in-AlreadyOpen.is in record { answer = ap (λ (x : MeshOpened). opened_number (mesh_opened_says x)) e; numbers = ap (λ (x : MeshOpened). opened_left a.numbers.now (mesh_opened_says x)) e; counts = ap (λ (x : MeshOpened). counts_left a.counts.now (mesh_opened_says x)) e }

pub returns-in-Opened : goal.returns-in-Opened
returns-in-Opened c =
    let a = c.args in
    let e = sym c.in-Opened.is in record { answer = ap (λ (x : MeshOpened). opened_number (mesh_opened_says x)) e; numbers = c.put_place.ensures ∙ ap (λ (x : MeshOpened). opened_left a.numbers.now (mesh_opened_says x)) e; counts = c.counts_of.ensures ∙ ap (λ (x : MeshOpened). counts_left a.counts.now (mesh_opened_says x)) e }
