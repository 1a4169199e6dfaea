-- `mic::sign_run` meets its contract. Assumes nothing.
use Prim.Native.Nat.{ℕ}
use native.Mathlib.Omega.{arith}
use mir.Val.{Fits}
use mir.Syntax.{w8}
use mathlib.Core.List.{[], ◌∷◌, foldl}
use lib.ListN.{length, get_or}
use mathlib.Core.Path.{◌≡◌, ap, ◌∙◌}
use Rattle.base.specs.Blocks.{Block}
use Rattle.fips197.specs.Aes.{aes}
use Rattle.cipher.specs.inner.Words.{enciphered}
use Rattle.cmac_chain.specs.inner.State.{absorb1}
use Rattle.cmac_chain.specs.declared.Mac.{Mac}
use Rattle.mic.proofs.Steps.{over, mic_is}
use borrow.Author.Rules.{rules}
use Rattle.mic.proofs.sign_run.Goals as goal

pub returns-then-head-payload-gt-BODY : goal.returns-then-head-payload-gt-BODY
returns-then-head-payload-gt-BODY c = let a = c.args in over (aes a.key.0) a.first a.head.now a.payload.now (omega arith)

pub returns : goal.returns
returns c = let a = c.args in
    let k = a.key.0 in
    let n : length k ≡ 16 = search rules in
    let f : (i : ℕ) → Fits w8 (get_or k i 0) = λ i. search rules in
    let b : Block k = record { long = n; small = λ i. (f i).fits } in
    let E = absorb1 (enciphered c.prepare-e.result) in
    mic_is k b a.first a.head.now a.payload.now c.ranges.first.fits (λ i. (c.shared_slice_known-1.given i).fits) (λ i. (c.shared_slice_known-2-1.given i).fits)
    _ _ _ _ c.prepare-e.ensures
    (c.absorb-all.ensures ∙ ap (λ (m : Mac). foldl E m a.payload.now) (c.absorb-m.ensures ∙ ap (λ (m : Mac). foldl E m a.head.now) (c.absorb.ensures ∙ ap (λ (m : Mac). foldl E m (a.first ∷ [])) c.start.ensures)))
    c.finish.ensures c.number.ensures (omega arith)
