-- `mesh_dump::fill` meets its contract. Assumes nothing.
use borrow.Author.Rules.{rules}
use Rattle.mesh_dump.proofs.Laws.{left_long, left_lines}
use Rattle.mesh_dump.proofs.fill.Goals as goal

pub returns-then-input-gt-MOST : goal.returns-then-input-gt-MOST
returns-then-input-gt-MOST c = left_long _ _ c.if-input-gt-MOST.true (search rules) _ _ (search rules) c.put_all.ensures

pub returns : goal.returns
returns c = left_lines _ _ c.if-input-gt-MOST.false _ _ _ c.fill_lines.ensures
