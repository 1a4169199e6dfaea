-- `mic::absorb::absorb_path` meets its contract. Assumes nothing.
use Prim.Native.Nat.{ℕ, ◌%◌}
use native.Mathlib.Omega.{arith}
use mathlib.Core.Path.{refl, sym, ap, ◌∙◌}
use Rattle.base.specs.Lists.{joined}
use Rattle.fields.specs.Path.{six_of}
use Rattle.heartbeats.specs.Paths.{path_run}
use Rattle.heartbeats.proofs.Loops.{entry_in, six_ahead, six_none, path_bytes_lem}
use Rattle.mic.proofs.Absorbing.{left_more, left_none, headed_more, low_six}
use Rattle.mic.proofs.absorb.absorb_path.Goals as goal

pub loop-i-init : goal.loop-i-init
loop-i-init c = record { same = refl }

pub overflow_add-run : goal.overflow_add-run
overflow_add-run c = let a = c.args in let l = a.entries.now in
    let h = entry_in l a.run.start a.run.len _ _ c.count.ensures c.held-n.ensures _ c.loop-i-test.true in omega arith

pub loop-i-preserved : goal.loop-i-preserved
loop-i-preserved c = let a = c.args in let l = a.entries.now in
    left_more _ _ _ _ _ c.loop-i.invariant c.entry-made.result.bytes _ _ (six_ahead l a.run.start a.run.len _ _ c.count.ensures c.held-n.ensures _ _ c.loop-i-test.true c.entry-made.ensures) c.absorb-b.ensures

pub returns : goal.returns
returns c = let a = c.args in let l = a.entries.now in
    let v = joined six_of (path_run l a.run.start a.run.len) in
    let y = path_bytes_lem l a.run.start a.run.len _ _ c.count.ensures c.held-n.ensures in
    headed_more _ _ _ _ _ c.absorb-a.ensures _ v (c.low_byte.ensures ∙ low_six _ ∙ ap (λ (x : ℕ). x % 256) (sym y))
    (left_none _ _ _ _ _ c.loop-i.invariant (six_none l a.run.start a.run.len _ _ c.count.ensures c.held-n.ensures _ c.loop-i-test.false))
