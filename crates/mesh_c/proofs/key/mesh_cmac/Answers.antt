-- `mesh_c::key::mesh_cmac` meets its contract. Assumes nothing.
use Rattle.fips197.specs.Aes.{aes}
use Rattle.keys.specs.declared.Aes128Key.{Aes128Key}
use Rattle.cmac_chain.specs.Cmac.{tag}
use mathlib.Core.Path.{ap, ◌∙◌}
use Rattle.mesh_c.proofs.key.mesh_cmac.Goals as goal

pub returns : goal.returns
returns c = c.cmac-r.ensures ∙ ap (λ (k : Aes128Key). tag (aes k.0) c.args.message.now) c.from_bytes.ensures
