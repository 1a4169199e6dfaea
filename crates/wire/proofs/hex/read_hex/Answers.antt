-- `wire::hex::read_hex` meets its contract. Assumes nothing.
use Rattle.std.proofs.Common.{◌≡◌, ◌+◌, ◌/◌, ◌≤◌, [], length, refl, sym, ◌∙◌, arith}
use native.Mathlib.Nat.{zero-add}
use Rattle.wire.specs.Hex.{unhex}
use Rattle.wire.proofs.Laws.Hex.{unhex_length, unhex_at}
use Rattle.wire.proofs.Laws.Lay.{laying_more}
use Rattle.wire.proofs.hex.read_hex.Goals as goal

pub loop-i-preserved : goal.loop-i-preserved
loop-i-preserved c = let n = c.as_chunks.ensures.front_len in
    let e : length (unhex c.args.s.now) ≡ length c.args.s.now / 2 = unhex_length _ in
    let h : 0 + length (unhex c.args.s.now) ≤ length c.args.out.now = omega arith in
    let p = unhex_at c.args.s.now _ c.loop-i.i [] refl (omega arith) in
    rw zero-add at (laying_more _ 0 _ h c.loop-i.out c.loop-i.i _ (omega arith) (c.pair.ensures ∙ rw c.as_chunks.ensures.front (sym p)) c.loop-i.invariant)
