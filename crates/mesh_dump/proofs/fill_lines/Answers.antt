-- `mesh_dump::fill_lines` meets its contract. Assumes nothing.
use native.Mathlib.Omega.{arith}
use lib.ListN.{drop, length-drop}
use borrow.Author.Rules.{rules}
use Rattle.mesh_dump.proofs.Laws.{first_most, end_is, line_out_most, sofar_none, sofar_more, sofar_full, sofar_end}
use Rattle.mesh_dump.proofs.fill_lines.Goals as goal

pub loop-next-init : goal.loop-next-init
loop-next-init c = sofar_none _ _ _

pub overflow_add-len : goal.overflow_add-len
overflow_add-len c = let m = line_out_most c.part.result.now in let e = c.put_line-len.ensures.value in omega arith

pub overflow_add-end : goal.overflow_add-end
overflow_add-end c = let s = c.args.input.now in
    let n = c.loop-next.next in
    let e = end_is s n _ c.line_end.ensures in
    let m = first_most (drop n s) in
    let d = length-drop n s in
    omega arith

pub overflow_add-next : goal.overflow_add-next
overflow_add-next c = let s = c.args.input.now in
    let n = c.loop-next.next in
    let e = end_is s n _ c.line_end.ensures in
    let m = first_most (drop n s) in
    let d = length-drop n s in
    omega arith

pub loop-next-preserved : goal.loop-next-preserved
loop-next-preserved c = sofar_more _ _ _ _ _ _ c.loop-next.invariant _ _ _ _ c.loop-next-test.true c.if-out-len-ge-LINE.true
    (end_is _ _ _ c.line_end.ensures) c.part.ensures c.put_line-len.ensures.value c.put_line-len.ensures.out_after

pub returns-else-out-len-ge-LINE : goal.returns-else-out-len-ge-LINE
returns-else-out-len-ge-LINE c = sofar_full _ _ _ _ _ _ c.loop-next.invariant (search rules) c.if-out-len-ge-LINE.false

pub returns-after-loop-next : goal.returns-after-loop-next
returns-after-loop-next c = sofar_end _ _ _ _ _ _ c.loop-next.invariant (search rules) (search rules)
