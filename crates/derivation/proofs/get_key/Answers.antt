-- `derivation::get_key` meets its contract. Assumes nothing.
use mir.Val.{Fits}
use mir.Syntax.{w8}
use lib.ListN.{get_or, replicate}
use mathlib.Core.List.{List, ◌∷◌}
use Prim.Native.Nat.{ℕ}
use Rattle.base.specs.Lists.{Bytes}
use Rattle.base.proofs.Bytes.{cons_lt, zeros_lt}
use Rattle.keys.specs.Key.{key_of}
use Rattle.cipher.specs.inner.Words.{enciphered}
use Rattle.cipher.proofs.Bridge.{columns_are_bytes}
use borrow.Author.Rules.{rules}
use mathlib.Core.Path.{ap, ◌∙◌}
use Rattle.derivation.proofs.get_key.Goals as goal

pub returns : goal.returns
returns c = let a = c.args in
    let hk : Bytes a.key.0 = λ i. (let f : Fits w8 (get_or a.key.0 i 0) = search rules in f).fits in
    let hf : Fits w8 a.first = search rules in
    c.derive.ensures
    ∙ ap (λ (e : List ℕ). key_of (enciphered e (a.first ∷ replicate 15 0))) c.prepare-e.ensures
    ∙ ap key_of (columns_are_bytes _ hk _ (cons_lt _ (replicate 15 0) hf.fits (zeros_lt 15)))
