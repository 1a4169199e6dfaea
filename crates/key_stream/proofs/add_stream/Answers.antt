-- `key_stream::add_stream` meets its contract. Assumes nothing.
use Rattle.std.proofs.Common.{◌≡◌, ◌+◌, ◌-◌, ◌<◌, ◌≤◌, min, length, arith, rules}
use Rattle.key_stream.proofs.Turns.{adding_none, adding_more, adding_done}
use Rattle.key_stream.proofs.add_stream.Goals as goal

pub loop-at-init : goal.loop-at-init
loop-at-init c = let none : min 0 (length c.args.buf.now) ≡ 0 = omega arith in
    rw none (adding_none _ _ _)

pub loop-at-preserved : goal.loop-at-preserved
loop-at-preserved c = let o = c.args.buf.now in
    let at = c.loop-at.at in
    let e = at + c.min.result in
    let same : length c.loop-at.buf ≡ length o = c.loop-at.invariant.laying.same in
    let more : at < length o = search rules in
    let here : min at (length o) ≡ at = omega arith in
    let end : e ≡ at + min 16 (length o - at) = search rules in
    let next : min (at + 16) (length o) ≡ e = omega arith in
    rw next
    (adding_more _ _ o c.key_block-k.result c.add_block.new.s c.loop-at.buf c.loop-at.n c.next_number-n.result at e
    more end (search rules) c.key_block-k.ensures c.add_block.ensures c.next_number-n.ensures (rw here at c.loop-at.invariant))

pub returns : goal.returns
returns c = adding_done _ _ _ _ c.loop-at.n _ (search rules) c.loop-at.invariant

-- the step after the last block, where no whole one is left
pub returns-2 : goal.returns-2
returns-2 c = let o = c.args.buf.now in
    let at = c.loop-at.at in
    let e = at + c.min.result in
    let same : length c.loop-at.buf ≡ length o = c.loop-at.invariant.laying.same in
    let more : at < length o = search rules in
    let here : min at (length o) ≡ at = omega arith in
    let end : e ≡ at + min 16 (length o - at) = search rules in
    let all : length o ≤ e = search rules in
    adding_done _ _ o _ c.next_number-n.result e all
    (adding_more _ _ o c.key_block-k.result c.add_block.new.s c.loop-at.buf c.loop-at.n c.next_number-n.result at e
    more end (search rules) c.key_block-k.ensures c.add_block.ensures c.next_number-n.ensures (rw here at c.loop-at.invariant))
