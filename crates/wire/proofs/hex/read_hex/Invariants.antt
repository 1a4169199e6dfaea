-- `wire::hex::read_hex` meets its contract. Assumes nothing.
use Rattle.wire.specs.Hex.{unhex}
use Rattle.wire.proofs.Laws.Lay.{Laying}
use Rattle.wire.proofs.hex.read_hex.Given as goal

abbrev pub invariant-loop-i : goal.invariant-loop-i
invariant-loop-i l = Laying l.initial.out 0 (unhex l.s) l.out l.i
