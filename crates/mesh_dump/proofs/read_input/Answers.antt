-- `mesh_dump::read_input` meets its contract. Assumes nothing.
use Prim.Native.Nat.{◌-◌}
use native.Mathlib.Omega.{arith}
use lib.ListN.{length}
use borrow.Author.Rules.{rules}
use borrow.Rule.Slice.PartMut.{same_len_mid, mid_len}
use Rattle.mesh_dump.proofs.Whole.{read_more}
use Rattle.mesh_dump.proofs.read_input.Goals as goal

pub loop-n-preserved : goal.loop-n-preserved
loop-n-preserved g c =
    let a = c.read.auto.buf in
    let b = same_len_mid c.loop-n.n (length c.loop-n.buf - c.loop-n.n) c.loop-n.buf c.read.new.buf a in
    let m = mid_len c.loop-n.n (length c.loop-n.buf) c.loop-n.buf (omega arith) in
    let h = c.in_ok-more.ensures.bound in
    record { within = omega arith; bytes = read_more _ _ _ _ _ _ _ _ c.loop-n.invariant.within (search rules) c.loop-n.invariant.bytes c.in_ok-more.ensures.bytes.0 }
