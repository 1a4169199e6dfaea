-- `keys::Aes128Key::from_str` meets its contract. Assumes nothing.
use lib.ListN.{length}
use Prim.Native.Nat.{ℕ, ◌/◌}
use mathlib.Core.Bool.{true, false}
use Rattle.wire.specs.Hex.{all_hex, unhex}
use Rattle.wire.proofs.Laws.Lay.{put_whole}
use Rattle.wire.proofs.Laws.Hex.{unhex_length}
use Rattle.keys.specs.Key.{key_read, key_from_text}
use borrow.Author.Tests.{eq-eqb, ne_eqb}
use mathlib.Core.Path.{◌≡◌, sym, ap, ◌∙◌}
use Rattle.keys.proofs.Aes128Key.from_str.Goals as goal

pub returns-then-s-ne-TEXT_LENGTH : goal.returns-then-s-ne-TEXT_LENGTH
unfolding key_from_text
returns-then-s-ne-TEXT_LENGTH c = simp (ne_eqb _ _ c.if-s-ne-TEXT_LENGTH.true) c.refused.ensures

pub returns-then-not-is_hex : goal.returns-then-not-is_hex
unfolding key_from_text
returns-then-not-is_hex c = let h : all_hex c.args.s.now ≡ false = sym c.is_hex.ensures ∙ c.if-not-is_hex.true in
    simp (eq-eqb _ _ c.if-s-ne-TEXT_LENGTH.false, h) c.refused-then-not-is_hex.ensures

pub returns : goal.returns
unfolding key_from_text
returns c = let h : all_hex c.args.s.now ≡ true = sym c.is_hex.ensures ∙ c.if-not-is_hex.false in
    let n : length (unhex c.args.s.now) ≡ 16 = unhex_length _ ∙ ap (λ (k : ℕ). k / 2) c.if-s-ne-TEXT_LENGTH.false in
    simp (eq-eqb _ _ c.if-s-ne-TEXT_LENGTH.false, h) (c.accepted.ensures ∙ ap key_read (c.read_hex.ensures ∙ put_whole _ _ n))
