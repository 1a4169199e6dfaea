-- `sealing::content::encrypt` meets its contract. Assumes nothing.
use Prim.Native.Nat.{ℕ}
use mir.Val.{Fits}
use mir.Syntax.{w8}
use lib.ListN.{length, get_or}
use lib.Seq.{length-take-le}
use mathlib.Core.Path.{◌≡◌, sym, ap, ◌∙◌}
use native.Mathlib.Omega.{arith}
use Rattle.wire.proofs.Laws.Lay.{put_length}
use Rattle.sealing.proofs.Steps.{seal_refused, seal_long, seal_short, seal_done}
use borrow.Author.Rules.{rules}
use Rattle.sealing.proofs.content.encrypt.Goals as goal

pub returns-then-bad-ne0 : goal.returns-then-bad-ne0
returns-then-bad-ne0 c = (let both = seal_refused _ _ _ _ _ _ _ _ c.refusal-bad.ensures c.if-bad-ne0.true in record { answer = both.0; bytes = both.1 })

pub returns-then-n-gt-PAYLOAD : goal.returns-then-n-gt-PAYLOAD
returns-then-n-gt-PAYLOAD c = (let both = seal_long _ _ _ _ _ _ _ _ c.refusal-bad.ensures c.if-bad-ne0.false _ c.size-n.ensures c.if-n-gt-PAYLOAD.true in record { answer = both.0; bytes = both.1 })

pub returns-then-out-n : goal.returns-then-out-n
returns-then-out-n c = (let both = seal_short _ _ _ _ _ _ _ _ c.refusal-bad.ensures c.if-bad-ne0.false _ c.size-n.ensures c.if-n-gt-PAYLOAD.false c.if-out-n.true in record { answer = both.0; bytes = both.1 })

pub returns : goal.returns
returns c = let k = c.args.key.0 in
    let n : length k ≡ 16 = search rules in
    let f : (i : ℕ) → Fits w8 (get_or k i 0) = λ i. search rules in
    (let both = seal_done k _ _ _ _ _ _ _ c.refusal-bad.ensures c.if-bad-ne0.false _ c.size-n.ensures (record { long = n; small = λ i. (f i).fits }) c.if-n-gt-PAYLOAD.false c.if-out-n.false c.put.ensures c.prepare-e.ensures c.add_stream.ensures in record { answer = both.0; bytes = both.1 })

pub slice_bounds-add_stream-end-2 : goal.slice_bounds-add_stream-end-2
slice_bounds-add_stream-end-2 c = let b = c.before.before.before.before.before in
    let n : length b.put.new.out ≡ length c.args.out.now = ap length b.put.ensures ∙ put_length _ _ _ in
    sym (length-take-le c.size-n.result b.put.new.out (omega arith))
