-- `mesh_c::key::mesh_key_of_text` meets its contract. Assumes nothing.
use mathlib.Core.Path.{ap, ◌∙◌}
use Rattle.base.specs.Answers.{number_in, left_by}
use Rattle.keys.specs.Key.{key_says}
use Rattle.keys.specs.declared.KeyRead.{KeyRead}
use Rattle.mesh_c.specs.Face.{key_bytes}
use Rattle.mesh_c.proofs.key.mesh_key_of_text.Goals as goal

pub returns : goal.returns
returns c =
    let e = c.from_str.ensures in record { answer = c.put_key.ensures.answer ∙ ap (λ (r : KeyRead). number_in (key_says r)) e; key = c.put_key.ensures.key ∙ ap (λ (r : KeyRead). left_by key_bytes c.args.key.now (key_says r)) e }
