-- `mesh_dump::print` meets its contract. Assumes nothing.
use Prim.Native.Nat.{◌-◌}
use lib.ListN.{length}
use Rattle.mesh_dump.proofs.Whole.{Written}
use Rattle.mesh_dump.proofs.print.Given as goal

abbrev pub invariant-loop-next : goal.invariant-loop-next
invariant-loop-next g l = Written l.input (g.W.Write.contents l.fn.to) (g.W.Write.contents l.to) l.next

abbrev pub decreases-loop-next : goal.decreases-loop-next
decreases-loop-next g l = length l.input - l.next
