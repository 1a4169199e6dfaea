-- `mic::absorb::absorb_beat` meets its contract. Assumes nothing.
use Prim.Native.Nat.{◌+◌, ◌≤◌, ◌<◌}
use native.Mathlib.Omega.{arith}
use mathlib.Core.Path.{refl, sym, ◌∙◌}
use lib.ListN.{length, drop, length-drop}
use Rattle.cmac_chain.proofs.Turns.{rest_is}
use Rattle.mic.proofs.Absorbing.{left_more, left_last, six_from, entry_ahead, left_over}
use Rattle.mic.proofs.absorb.absorb_beat.Goals as goal

pub loop-i-init : goal.loop-i-init
loop-i-init c = (omega arith, record { same = refl })

pub loop-i-preserved : goal.loop-i-preserved
loop-i-preserved c = let v = c.args.value.now in let i = c.loop-i.i in
    let h : i + 6 ≤ length v = omega arith in
    (h, left_more _ _ _ _ _ c.loop-i.invariant.1 (six_from v i) _ _ (entry_ahead v i h) c.absorb-b.ensures)

pub returns : goal.returns
returns c = let v = c.args.value.now in let i = c.loop-i.i in
    let h : length (drop i v) < 6 = simp length-drop (omega arith) in
    left_last _ _ _ _ _ c.loop-i.invariant.1 _ _ (left_over (drop i v) h ∙ sym (rest_is v i)) c.absorb.ensures
