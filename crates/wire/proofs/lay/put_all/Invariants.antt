-- `wire::lay::put_all` meets its contract. Assumes nothing.
use Rattle.wire.proofs.Laws.Lay.{Laying}
use Rattle.wire.proofs.lay.put_all.Given as goal

abbrev pub invariant-loop-i : goal.invariant-loop-i
invariant-loop-i l = Laying l.initial.out l.at l.src l.out l.i
