-- `cmac_chain::add` meets its contract. Assumes nothing.
use Prim.Native.Nat.{min}
use lib.ListN.{length}
use Rattle.base.specs.Lists.{added}
use Rattle.base.proofs.Lists.{added_none, added_more}
use Rattle.cmac_chain.proofs.Turns.{take_least}
use native.Mathlib.Omega.{arith}
use mathlib.Core.Path.{◌≡◌, sym, ap, ◌∙◌}
use Rattle.cmac_chain.proofs.add.Goals as goal

pub loop-i-init : goal.loop-i-init
loop-i-init c = (omega arith, sym (added_none _))

pub loop-i-preserved : goal.loop-i-preserved
loop-i-preserved c = let s = c.args.s.now in
    let l = c.min-i-end.ensures in
    (omega arith, added_more _ s c.loop-i.i (omega arith) c.loop-i.invariant.1)

pub returns : goal.returns
returns c = let s = c.args.s.now in
    let l = c.min-i-end.ensures in
    let e : c.loop-i.i ≡ min (length s) 16 = omega arith in
    c.loop-i.invariant.1 ∙ ap (added _) (take_least 16 s _ e)
