-- `key_stream::encrypt_events_commands` meets its contract. Assumes nothing.
use Rattle.std.proofs.Common.{◌≡◌, ℕ, ◌≤◌, not, length, get_or, sym, ap, ◌∙◌, arith, length-take-le, w8, Fits, rules}
use Rattle.wire.proofs.Laws.Lay.{put_length}
use Rattle.key_stream.proofs.Turns.{too_long_lem, too_short, sealed_in}
use Rattle.key_stream.proofs.encrypt_events_commands.Goals as goal

pub returns-then-n-gt-PAYLOAD : goal.returns-then-n-gt-PAYLOAD
returns-then-n-gt-PAYLOAD c = let a = c.args in
    (let both = too_long_lem a.key.0 (not a.is_command) a.relay_id a.timestamp a.payload.now a.out.now c.if-n-gt-PAYLOAD.true in record { answer = both.0; bytes = both.1 })

pub returns-then-out-n : goal.returns-then-out-n
returns-then-out-n c = let a = c.args in
    (let both = too_short a.key.0 (not a.is_command) a.relay_id a.timestamp a.payload.now a.out.now (omega arith) c.if-out-n.true in record { answer = both.0; bytes = both.1 })

pub slice_bounds-add_stream-end-2 : goal.slice_bounds-add_stream-end-2
slice_bounds-add_stream-end-2 c = let b = c.before.before.before.before.before in
    let a = b.args in
    let n : length b.put_all.new.out ≡ length a.out.now = ap length b.put_all.ensures ∙ put_length _ _ _ in
    sym (length-take-le (length a.payload.now) b.put_all.new.out (omega arith))

pub returns : goal.returns
returns c = let b = c.before.before in
    let d = b.before.before.before in
    let g = d.before.before.before in
    let z = g.before.before.before.before.before.before in
    let a = z.args in
    let k = a.key.0 in
    let w = z.well_formed.0 in
    let n : length k ≡ 16 = search rules in
    let f : (i : ℕ) → Fits w8 (get_or k i 0) = λ i. search rules in
    let h : length a.payload.now ≤ length a.out.now = omega arith in
    (let both = sealed_in k (not a.is_command) a.relay_id a.timestamp a.payload.now a.out.now (record { long = n; small = λ i. (f i).fits })
    (omega arith) h g.put_all.ensures d.prepare-e.ensures b.add_stream.ensures in record { answer = both.0; bytes = both.1 })
