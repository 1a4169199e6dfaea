-- `mesh_c::frame::mesh_decrypt` meets its contract. Assumes nothing.
use mathlib.Core.Path.{ap, ◌∙◌}
use Rattle.keys.specs.declared.Aes128Key.{Aes128Key}
use Rattle.sealing.specs.Mesh.{mesh_opened_says}
use Rattle.sealing.specs.declared.mesh.MeshOpened.{MeshOpened}
use Rattle.mesh_c.specs.Face.{numbers_decrypted, numbers_work, opened_number, opened_left, counts_left}
use Rattle.mesh_c.proofs.frame.mesh_decrypt.Goals as goal

pub returns : goal.returns
returns c =
    let a = c.args in
    let e = c.from_bytes.ensures in
    let m = c.decrypt_numbers-o.ensures.answer ∙ ap (λ (k : Aes128Key). numbers_decrypted k.0 a.numbers.now a.frame.now a.work.now) e in record { answer = c.put_opened.ensures.answer ∙ ap (λ (x : MeshOpened). opened_number (mesh_opened_says x)) m; numbers = c.put_opened.ensures.numbers ∙ ap (λ (x : MeshOpened). opened_left a.numbers.now (mesh_opened_says x)) m; work = c.decrypt_numbers-o.ensures.work ∙ ap (λ (k : Aes128Key). numbers_work k.0 a.numbers.now a.frame.now a.work.now) e; counts = c.put_opened.ensures.counts ∙ ap (λ (x : MeshOpened). counts_left a.counts.now (mesh_opened_says x)) m }
