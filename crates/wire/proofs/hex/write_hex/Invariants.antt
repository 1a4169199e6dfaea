-- `wire::hex::write_hex` meets its contract. Assumes nothing.
use Prim.Native.Nat.{◌*◌}
use Rattle.wire.specs.Hex.{hex_text}
use Rattle.wire.proofs.Laws.Lay.{Laying}
use Rattle.wire.proofs.hex.write_hex.Given as goal

abbrev pub invariant-loop-i : goal.invariant-loop-i
invariant-loop-i l = Laying l.initial.out l.at (hex_text l.src) l.out (2 * l.i)
