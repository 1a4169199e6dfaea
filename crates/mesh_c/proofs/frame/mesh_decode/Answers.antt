-- `mesh_c::frame::mesh_decode` meets its contract. Assumes nothing.
use mathlib.Core.Path.{ap, ◌∙◌}
use Rattle.sealing.specs.Mesh.{mesh_opened_says}
use Rattle.sealing.specs.declared.mesh.MeshOpened.{MeshOpened}
use Rattle.mesh_c.specs.Face.{opened_number, opened_left, counts_left}
use Rattle.mesh_c.proofs.frame.mesh_decode.Goals as goal

pub returns : goal.returns
returns c =
    let a = c.args in
    let m = c.decode_numbers-o.ensures in record { answer = c.put_opened.ensures.answer ∙ ap (λ (x : MeshOpened). opened_number (mesh_opened_says x)) m; numbers = c.put_opened.ensures.numbers ∙ ap (λ (x : MeshOpened). opened_left a.numbers.now (mesh_opened_says x)) m; counts = c.put_opened.ensures.counts ∙ ap (λ (x : MeshOpened). counts_left a.counts.now (mesh_opened_says x)) m }
