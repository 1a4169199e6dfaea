-- `heartbeats::heartbeat::bad_length` meets its contract. Assumes nothing.
use Rattle.base.proofs.Picks.{picks}
use Rattle.heartbeats.proofs.heartbeat.bad_length.Goals as goal

pub returns-then-n-gt-ITEM : goal.returns-then-n-gt-ITEM
returns-then-n-gt-ITEM c = search picks

pub returns-then-n-gt0 : goal.returns-then-n-gt0
returns-then-n-gt0 c = search picks

pub returns : goal.returns
returns c = search picks
