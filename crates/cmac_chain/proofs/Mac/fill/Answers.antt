-- `cmac_chain::Mac::fill` meets its contract. Assumes nothing.
use Rattle.std.proofs.Common.{◌≡◌, refl, sym, ◌∙◌, arith, length, take, get_or, length-take-le, get_or-take}
use Rattle.cmac_chain.proofs.Turns.{fill_more, fill_done}
use Rattle.cmac_chain.proofs.Mac.fill.Goals as goal

pub loop-b-init : goal.loop-b-init
loop-b-init c = (omega arith, refl)

pub loop-b-preserved : goal.loop-b-preserved
loop-b-preserved c = let s = c.args.s.now in
    let m = c.loop-b.m in
    let j = c.loop-b.b-index in
    let n = c.min.result in
    let e = c.saturating_sub-room.ensures in
    let f = c.min.ensures in
    let l : length (take n s) ≡ n = length-take-le n s (omega arith) in
    let g : get_or (take n s) j 0 ≡ get_or s j 0 = get_or-take n s j 0 (omega arith) in
    (omega arith, rw g (fill_more s j m.count m.x (omega arith) (omega arith) c.loop-b.invariant.1))

pub returns : goal.returns
returns c = let s = c.args.s.now in
    let n = c.min.result in
    let e = c.saturating_sub-room.ensures in
    let f = c.min.ensures in
    let l : length (take n s) ≡ n = length-take-le n s (omega arith) in
    sym (c.loop-b.invariant.1 ∙ fill_done _ c.loop-b.b-index _ (λ h. omega arith))
