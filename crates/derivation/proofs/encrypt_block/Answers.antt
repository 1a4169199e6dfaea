-- `derivation::encrypt_block` meets its contract. Assumes nothing.
use mir.Val.{Fits}
use mir.Syntax.{w8}
use lib.ListN.{get_or}
use mathlib.Core.List.{List}
use Prim.Native.Nat.{ℕ}
use Rattle.base.specs.Lists.{Bytes}
use Rattle.cipher.specs.inner.Words.{enciphered}
use Rattle.cipher.proofs.Bridge.{columns_are_bytes}
use borrow.Author.Rules.{rules}
use mathlib.Core.Path.{ap, ◌∙◌}
use Rattle.derivation.proofs.encrypt_block.Goals as goal

pub returns : goal.returns
returns c = let hk : Bytes c.args.key.0 = λ i. (let f : Fits w8 (get_or c.args.key.0 i 0) = search rules in f).fits in
    let hb : Bytes c.args.block = λ i. (let f : Fits w8 (get_or c.args.block i 0) = search rules in f).fits in
    c.encipher.ensures ∙ ap (λ (e : List ℕ). enciphered e c.args.block) c.prepare-e.ensures ∙ columns_are_bytes _ hk _ hb
