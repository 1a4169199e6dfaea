-- `cmac_chain::shift` meets its contract. Assumes nothing.
use Rattle.std.proofs.Common.{rules, sym, ◌∙◌, get_or, ◌≡◌, refl, length, arith}
use lib.ListN.{get_or-eq_default}
use Rattle.base.proofs.Lists.{◌◂◌, listed}
use Rattle.cmac_chain.specs.Cmac.{shl, shifted}
use Rattle.cmac_chain.proofs.shift.Goals as goal

pub returns : goal.returns
unfolding shifted
returns c = let l = c.args.l in
    let n : length l ≡ 16 = search rules in
    let z : get_or l 16 0 ≡ 0 = get_or-eq_default l 0 (omega arith) in
    let last : get_or c.from_fn.result 15 0 ≡ shl (get_or l 15 0) 0 = search rules in
    sym (listed 16 _ c.from_fn.ensures.items.long)
    ∙ ((search rules) ◂ (search rules) ◂ (search rules) ◂ (search rules) ◂ (search rules) ◂ (search rules) ◂ (search rules) ◂ (search rules)
    ◂ (search rules) ◂ (search rules) ◂ (search rules) ◂ (search rules) ◂ (search rules) ◂ (search rules) ◂ (search rules) ◂ (rw z last) ◂ refl)
