-- `wire::parts::reaches` meets its contract. Assumes nothing.
use Rattle.wire.specs.Part.{reach_of}
use Rattle.base.proofs.Picks.{picks}
use Rattle.wire.proofs.parts.reaches.Goals as goal

pub returns-then-len-eq0 : goal.returns-then-len-eq0
unfolding reach_of
returns-then-len-eq0 c = search picks

pub returns-then-n-start : goal.returns-then-n-start
unfolding reach_of
returns-then-n-start c = search picks

pub returns-then-n-start-2 : goal.returns-then-n-start-2
unfolding reach_of
returns-then-n-start-2 c = search picks

pub returns : goal.returns
unfolding reach_of
returns c = search picks
