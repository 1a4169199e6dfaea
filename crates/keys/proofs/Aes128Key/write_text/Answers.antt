-- `keys::Aes128Key::write_text` meets its contract. Assumes nothing.
use lib.ListN.{length}
use Prim.Native.Nat.{◌<◌, ◌≤◌}
use Rattle.base.proofs.Answers.{room, no_room}
use Rattle.base.specs.declared.Written.TheVariants.{Bytes}
use Rattle.wire.specs.Hex.{hex_text}
use Rattle.wire.proofs.Laws.Hex.{hex_length}
use Rattle.wire.proofs.Laws.Lay.{put_front, put_length}
use borrow.Author.Rules.{rules}
use native.Mathlib.Omega.{arith}
use mathlib.Core.Path.{◌≡◌, sym, ap, ◌∙◌}
use Rattle.keys.proofs.Aes128Key.write_text.Goals as goal

pub returns-then-out-lt-TEXT_LENGTH : goal.returns-then-out-lt-TEXT_LENGTH
returns-then-out-lt-TEXT_LENGTH c = let k : length c.args.self.0 ≡ 16 = search rules in
    let h : length c.args.out.now < length (hex_text c.args.self.0) = omega (arith, hex_length c.args.self.0) in
    record { answer = sym (no_room _ _ h).0; bytes = sym (no_room _ _ h).1 }

pub shape_of-out : goal.shape_of-out
shape_of-out c = ap length c.write_hex.ensures ∙ put_length _ _ _

pub returns : goal.returns
returns c = let k : length c.args.self.0 ≡ 16 = search rules in
    let n : length (hex_text c.args.self.0) ≡ 32 = omega (arith, hex_length c.args.self.0) in
    let h : length (hex_text c.args.self.0) ≤ length c.args.out.now = omega arith in
    record { answer = ap Bytes (sym n) ∙ sym (room _ _ h).0; bytes = c.write_hex.ensures ∙ put_front _ _ h }
