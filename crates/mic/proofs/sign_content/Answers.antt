-- `mic::sign_content` meets its contract. Assumes nothing.
use Prim.Native.Nat.{ℕ}
use native.Mathlib.Omega.{arith}
use mir.Val.{Fits}
use mir.Syntax.{w8}
use mathlib.Core.List.{[], ◌∷◌, foldl}
use lib.ListN.{length, get_or}
use mathlib.Core.Path.{◌≡◌, ap, ◌∙◌}
use Rattle.base.specs.Blocks.{Block}
use Rattle.fips197.specs.Aes.{aes}
use Rattle.cipher.specs.inner.Words.{enciphered}
use Rattle.cmac_chain.specs.inner.State.{absorb1}
use Rattle.cmac_chain.specs.declared.Mac.{Mac}
use Rattle.contents.specs.Content.{content_bytes}
use Rattle.mic.proofs.Steps.{unsigned, signs, over, wire_refused, wire_bytes, mic_is}
use Rattle.composed_items.proofs.Laws.{capped_is, capped_over}
use borrow.Author.Rules.{rules}
use Rattle.mic.proofs.sign_content.Goals as goal

pub returns-then-bad-ne0 : goal.returns-then-bad-ne0
returns-then-bad-ne0 c = let a = c.args in
    let l = a.lent.now in
    unsigned (aes a.key.0) a.first _ _ (wire_refused a.is_event l a.content a.head.now _ c.refusal-bad.ensures c.if-bad-ne0.true)

pub returns-then-n-gt-FRAME : goal.returns-then-n-gt-FRAME
returns-then-n-gt-FRAME c = let a = c.args in
    let l = a.lent.now in
    let v = content_bytes a.is_event l a.content in
    let k = capped_over (length a.head.now) 8187 _ (length v) (omega arith) c.size-n.ensures (omega arith) in
    signs (aes a.key.0) a.first _ _ _ (wire_bytes a.is_event l a.content a.head.now _ c.refusal-bad.ensures c.if-bad-ne0.false)
    (over (aes a.key.0) a.first a.head.now v k)

pub returns-then-head-n-gt-BODY : goal.returns-then-head-n-gt-BODY
returns-then-head-n-gt-BODY c = let a = c.args in
    let l = a.lent.now in
    let v = content_bytes a.is_event l a.content in
    let k = capped_over (length a.head.now) 8187 _ (length v) (omega arith) c.size-n.ensures (omega arith) in
    signs (aes a.key.0) a.first _ _ _ (wire_bytes a.is_event l a.content a.head.now _ c.refusal-bad.ensures c.if-bad-ne0.false)
    (over (aes a.key.0) a.first a.head.now v k)

pub returns : goal.returns
returns c = let a = c.args in
    let l = a.lent.now in
    let v = content_bytes a.is_event l a.content in
    let key = a.key.0 in
    let n : length key ≡ 16 = search rules in
    let f : (i : ℕ) → Fits w8 (get_or key i 0) = λ i. search rules in
    let b : Block key = record { long = n; small = λ i. (f i).fits } in
    let E = absorb1 (enciphered c.prepare-e.result) in
    let k : c.size-n.result ≡ length v = capped_is _ (length v) c.size-n.ensures (omega (arith, c.if-n-gt-FRAME.false)) in
    signs (aes key) a.first _ _ _ (wire_bytes a.is_event l a.content a.head.now _ c.refusal-bad.ensures c.if-bad-ne0.false)
    (mic_is key b a.first a.head.now v c.ranges.first.fits (λ i. (c.shared_slice_known-1.given i).fits) c.absorb_content-all.ensures.bytes
    _ _ _ _ c.prepare-e.ensures
    (c.absorb_content-all.ensures.state ∙ ap (λ (m : Mac). foldl E m v) (c.absorb-m.ensures ∙ ap (λ (m : Mac). foldl E m a.head.now) (c.absorb.ensures ∙ ap (λ (m : Mac). foldl E m (a.first ∷ [])) c.start.ensures)))
    c.finish.ensures c.number.ensures (omega (arith, c.if-head-n-gt-BODY.false, k)))
