-- `mesh_c::key::mesh_signing_key` meets its contract. Assumes nothing.
use mathlib.Core.Path.{ap, ◌∙◌}
use Rattle.derivation.specs.Derived.{signing_key}
use Rattle.keys.specs.declared.Aes128Key.{Aes128Key}
use Rattle.mesh_c.proofs.key.mesh_signing_key.Goals as goal

pub returns : goal.returns
returns c =
    c.to_bytes.ensures
    ∙ ap (λ (k : Aes128Key). k.0) c.get_signing_key.ensures
    ∙ ap (λ (k : Aes128Key). signing_key k.0) c.from_bytes.ensures
