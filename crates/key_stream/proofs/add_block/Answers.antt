-- `key_stream::add_block` meets its contract. Assumes nothing.
use Rattle.std.proofs.Common.{sym, refl, ◌∙◌, length-set, rules}
use Rattle.base.proofs.Lists.{added_none, added_more}
use Rattle.key_stream.proofs.Turns.{added_all}
use Rattle.key_stream.proofs.add_block.Goals as goal

pub loop-j-init : goal.loop-j-init
loop-j-init c = (refl, sym (added_none _))

pub loop-j-preserved : goal.loop-j-preserved
loop-j-preserved c = let a = c.args in
    let b = c.loop-j in
    (simp length-set b.invariant.0, added_more a.s.now a.k b.j (search rules) b.invariant.1)

pub returns : goal.returns
returns c = let a = c.args in
    c.loop-j.invariant.1 ∙ added_all a.s.now a.k c.loop-j.j (search rules)
