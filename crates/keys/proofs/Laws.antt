-- Laws of key text. Assumes nothing.
use mathlib.Core.Path.{◌≡◌, ap, ◌∙◌}
use mathlib.Core.List.{List}
use Prim.Native.Nat.{ℕ, ◌*◌}
use lib.ListN.{length}
use borrow.Author.Tests.{eq-eqb}
use Rattle.base.specs.Blocks.{Block}
use Rattle.wire.specs.Hex.{hex_text}
use Rattle.wire.proofs.Laws.Hex.{hex_length, hex_all, hex_back}
use Rattle.keys.specs.Key.{key_read, key_from_text}

-- a key's text reads back as the key
pub text_back : (k : List ℕ) → Block k → key_from_text (hex_text k) ≡ key_read k
unfolding key_from_text
text_back k b =
    let n : length (hex_text k) ≡ 32 = hex_length k ∙ ap (λ (i : ℕ). 2 * i) b.long in
    simp (eq-eqb (length (hex_text k)) 32 n, hex_all k, hex_back k b.small)
