-- `wire::hex::write_hex` meets its contract. Assumes nothing.
use Rattle.std.proofs.Common.{◌≡◌, ◌+◌, ◌*◌, ◌≤◌, length, sym, ◌∙◌, arith}
use Rattle.wire.specs.Hex.{hex_text}
use Rattle.wire.proofs.Laws.Hex.{hex_length, hex_even, hex_odd}
use Rattle.wire.proofs.Laws.Lay.{laying_more}
use Rattle.wire.proofs.hex.write_hex.Goals as goal

pub loop-i-preserved : goal.loop-i-preserved
loop-i-preserved c = let e : length (hex_text c.args.src.now) ≡ 2 * length c.args.src.now = hex_length _ in
    let h : c.args.at + length (hex_text c.args.src.now) ≤ length c.args.out.now = omega arith in
    let i = c.loop-i.i in
    let one = laying_more _ _ _ h c.loop-i.out (2 * i) _ (omega arith) (c.digit.ensures ∙ sym (hex_even _ i c.loop-i-test.true)) c.loop-i.invariant in
    let two = laying_more _ _ _ h _ (2 * i + 1) _ (omega arith) (c.digit-in-loop-i.ensures ∙ sym (hex_odd _ i c.loop-i-test.true)) one in
    let p : c.args.at + (2 * i + 1) ≡ c.args.at + 2 * i + 1 = omega arith in
    let q : 2 * i + 1 + 1 ≡ 2 * (i + 1) = omega arith in
    rw (p, q) at two
