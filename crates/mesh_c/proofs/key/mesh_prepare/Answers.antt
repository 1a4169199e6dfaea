-- `mesh_c::key::mesh_prepare` meets its contract. Assumes nothing.
use Rattle.cipher.specs.inner.Words.{prepared}
use Rattle.keys.specs.declared.Aes128Key.{Aes128Key}
use mathlib.Core.Path.{ap, ◌∙◌}
use Rattle.mesh_c.proofs.key.mesh_prepare.Goals as goal

pub returns : goal.returns
returns c = c.prepare-r.ensures ∙ ap (λ (k : Aes128Key). prepared k.0) c.from_bytes.ensures
