-- `fields::freq::decode_freq` meets its contract. Assumes nothing.
use Rattle.fields.specs.Freq.{freq_read}
use Rattle.base.proofs.Picks.{picks}
use Rattle.fields.proofs.freq.decode_freq.Goals as goal

pub returns-then-b-ne3 : goal.returns-then-b-ne3
unfolding freq_read
returns-then-b-ne3 c = search picks

pub returns : goal.returns
unfolding freq_read
returns c = search picks
