-- `cmac::absorb` meets its contract. Assumes nothing.
use Rattle.std.proofs.Common.{rules, ◌≡◌, ℕ, ◌-◌, min, List, [], ◌+◌, ◌++◌, length, length-append, take, drop, sym, ap, ap₂, ◌∙◌, arith}
use Rattle.std.proofs.lemmas.List.{nil_from_length}
use mathlib.Core.List.{foldl}
use Rattle.base.specs.Lists.{added}
use Rattle.cipher.specs.inner.Words.{enciphered}
use Rattle.cmac_chain.specs.inner.State.{fill1, absorb1}
use Rattle.cmac_chain.proofs.Turns.{head_in, head_full, block_more}
use Rattle.cmac.proofs.absorb.Goals as goal

pub loop-block-init : goal.loop-block-init
loop-block-init c = let m = c.args.m in
    let s = c.args.s.now in
    let E = enciphered c.args.e.now in
    let k = c.min.result in
    let n : k ≡ min (length s) (16 - m.count) = omega (arith, c.min.ensures, c.saturating_sub.ensures) in
    let z : c.into_iter-block-iterator.result.size ≡ 16 = search rules in
    let r : c.into_iter-block-iterator.result.rest.now ≡ drop k s = search rules in
    let f : c.fill-a.result ≡ foldl fill1 m (take k s) = c.fill-a.ensures ∙ ap (foldl fill1 m) c.split_at.ensures.front in
    (z, head_in m s k n E ∙ ap₂ (foldl (absorb1 E)) (sym f) (sym r), λ h. rw f (head_full m s k n (rw r at h)))

pub loop-block-preserved : goal.loop-block-preserved
loop-block-preserved c = let i = c.loop-block.invariant in
    let a = c.loop-block.a in
    let p = c.in-Some.ensures.steps in
    let z = i.0 in
    let q = c.in-Some.block.now in
    let r = c.loop-block.block-iterator.rest.now in
    let t = c.next.new.self.rest.now in
    let e : r ≡ q ++ t = p.1.0 in
    let n : length q ≡ min 16 (length r) = rw z at p.1.1 in
    let l : length r ≡ length q + length t = ap length e ∙ length-append q t in
    let y = c.add.ensures ∙ ap (λ (x : List ℕ). added x (take 16 q)) c.encipher.ensures in
    (p.0 ∙ z, block_more _ a q t e n p.1.2 (i.2 p.1.2) y i.1, λ h. omega arith)

pub returns : goal.returns
returns c = let e : c.loop-block.block-iterator.rest.now ≡ [] = nil_from_length _ (search rules) in
    sym (c.loop-block.invariant.1 ∙ ap (foldl (absorb1 (enciphered c.args.e.now)) c.loop-block.a) e)
