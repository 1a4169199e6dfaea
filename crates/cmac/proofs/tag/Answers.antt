-- `cmac::tag` meets its contract. Assumes nothing.
use Rattle.cipher.specs.inner.Words.{enciphered}
use Rattle.cmac_chain.specs.inner.State.{finished}
use Rattle.cmac_chain.proofs.Laws.{finish_tag}
use mathlib.Core.Path.{ap, ◌∙◌}
use Rattle.cmac.proofs.tag.Goals as goal

pub returns : goal.returns
returns c = c.finish.ensures
    ∙ ap (finished (enciphered c.args.e.now)) (c.absorb.ensures ∙ rw c.start.ensures)
    ∙ finish_tag _ _
