-- `dump::digits::digits_of` meets its contract. Assumes nothing.
use Rattle.dump.proofs.Laws.Decimal.{Spelling}
use Rattle.dump.proofs.digits.digits_of.Given as goal

abbrev pub invariant-loop-rest : goal.invariant-loop-rest
invariant-loop-rest l = Spelling l.n l.bytes l.at l.rest

abbrev pub decreases-loop-rest : goal.decreases-loop-rest
decreases-loop-rest l = l.rest
