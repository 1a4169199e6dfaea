-- `mesh_c::key::mesh_encryption_key` meets its contract. Assumes nothing.
use mathlib.Core.Path.{ap, ◌∙◌}
use Rattle.derivation.specs.Derived.{encryption_key}
use Rattle.keys.specs.declared.Aes128Key.{Aes128Key}
use Rattle.mesh_c.proofs.key.mesh_encryption_key.Goals as goal

pub returns : goal.returns
returns c =
    c.to_bytes.ensures
    ∙ ap (λ (k : Aes128Key). k.0) c.get_encryption_key.ensures
    ∙ ap (λ (k : Aes128Key). encryption_key k.0) c.from_bytes.ensures
