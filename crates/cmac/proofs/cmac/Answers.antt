-- `cmac::cmac` meets its contract. Assumes nothing.
use Prim.Native.Nat.{ℕ}
use mathlib.Core.List.{List}
use mir.Val.{Fits}
use mir.Syntax.{w8}
use lib.ListN.{length, get_or}
use Rattle.base.specs.Blocks.{Block}
use Rattle.cipher.specs.inner.Words.{enciphered}
use Rattle.cipher.proofs.Laws.{prepared_agrees}
use Rattle.cmac_chain.specs.Cmac.{tag}
use Rattle.cmac_chain.proofs.Laws.{tag_same}
use borrow.Author.Rules.{rules}
use mathlib.Core.Path.{◌≡◌, ap, ◌∙◌}
use Rattle.cmac.proofs.cmac.Goals as goal

pub returns : goal.returns
returns c = let k = c.args.key.0 in
    let s = c.args.s.now in
    let n : length k ≡ 16 = search rules in
    let f : (i : ℕ) → Fits w8 (get_or k i 0) = λ i. search rules in
    let g : (i : ℕ) → Fits w8 (get_or s i 0) = λ i. search rules in
    let b : Block k = record { long = n; small = λ i. (f i).fits } in
    c.tag.ensures
    ∙ ap (λ (e : List ℕ). tag (enciphered e) s) c.prepare-e.ensures
    ∙ tag_same _ _ (prepared_agrees k b) s (λ i. (g i).fits)
