-- `hops::lay_mic` meets its contract. Assumes nothing.
use Rattle.hops.specs.inner.Steps.{mic_laid}
use Rattle.hops.proofs.lay_mic.Goals as goal

pub returns : goal.returns
unfolding mic_laid
returns c = cc
