-- `mesh_c::frame::mesh_seal` meets its contract. Assumes nothing.
use mathlib.Core.Path.{ap, ◌∙◌}
use Rattle.base.specs.Answers.{number_in, out_of}
use Rattle.packets.specs.Read.{mesh_says}
use Rattle.packets.specs.declared.mesh.MeshRead.{MeshRead}
use Rattle.keys.specs.declared.Aes128Key.{Aes128Key}
use Rattle.mesh_c.specs.Face.{numbers_sealed, numbers_seal, placed_left}
use Rattle.mesh_c.proofs.frame.mesh_seal.Goals as goal

pub returns : goal.returns
returns c =
    let a = c.args in
    let e = c.from_bytes.ensures in
    let m = c.seal_numbers-read.ensures.answer ∙ ap (λ (k : Aes128Key). numbers_sealed k.0 a.lent.now a.numbers.now a.out.now) e in record { answer = c.put_sealed.ensures.answer ∙ ap (λ (x : MeshRead). number_in (mesh_says x)) m; numbers = c.put_sealed.ensures.numbers ∙ ap (λ (x : MeshRead). placed_left a.numbers.now (mesh_says x)) m; out = c.seal_numbers-read.ensures.out ∙ ap (λ (k : Aes128Key). out_of (numbers_seal k.0 a.lent.now a.numbers.now) a.out.now) e }
