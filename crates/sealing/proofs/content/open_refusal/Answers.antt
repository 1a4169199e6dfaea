-- `sealing::content::open_refusal` meets its contract. Assumes nothing.
use Rattle.base.proofs.Picks.{picks}
use Rattle.sealing.proofs.content.open_refusal.Goals as goal

pub returns-then-kept-gt1 : goal.returns-then-kept-gt1
returns-then-kept-gt1 c = search picks

pub returns-then-kept-eq1 : goal.returns-then-kept-eq1
returns-then-kept-eq1 c = search picks

pub returns : goal.returns
returns c = search picks
