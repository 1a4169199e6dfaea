-- `mesh_dump::fill_lines` meets its contract. Assumes nothing.
use Prim.Native.Nat.{◌-◌}
use lib.ListN.{length}
use Rattle.mesh_dump.proofs.Laws.{Sofar}
use Rattle.mesh_dump.proofs.fill_lines.Given as goal

abbrev pub invariant-loop-next : goal.invariant-loop-next
invariant-loop-next l = Sofar l.input l.from l.initial.out l.out l.len l.next

abbrev pub decreases-loop-next : goal.decreases-loop-next
decreases-loop-next l = length l.input - l.next
