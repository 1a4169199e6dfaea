-- `mesh_c::key::mesh_encrypt_block` meets its contract. Assumes nothing.
use Rattle.fips197.specs.Aes.{aes}
use Rattle.keys.specs.declared.Aes128Key.{Aes128Key}
use mathlib.Core.Path.{ap, ◌∙◌}
use Rattle.mesh_c.proofs.key.mesh_encrypt_block.Goals as goal

pub returns : goal.returns
returns c = c.encrypt_block-r.ensures ∙ ap (λ (k : Aes128Key). aes k.0 c.args.block.now) c.from_bytes.ensures
