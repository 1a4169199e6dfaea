-- `wire::parts::part` meets its contract. Assumes nothing.
use native.Mathlib.Nat.{add-sub_cancel_left}
use Rattle.wire.specs.Part.{part_of}
use Rattle.base.proofs.Picks.{picks}
use Rattle.wire.proofs.parts.part.Goals as goal

pub returns-then-s-start : goal.returns-then-s-start
unfolding part_of
returns-then-s-start c = search picks

pub returns-then-s-start-2 : goal.returns-then-s-start-2
unfolding part_of
returns-then-s-start-2 c = search picks

pub returns : goal.returns
unfolding part_of
returns c = simp add-sub_cancel_left (search picks)
