-- `kept_items::put_value` meets its contract. Assumes nothing.
use Rattle.std.proofs.Common.{arith}
use Rattle.base.proofs.Lists.{imap_length}
use Rattle.wire.proofs.Laws.Lay.{laying_done}
use Rattle.kept_items.proofs.Laws.{value_more}
use Rattle.kept_items.specs.Kept.{fixed}
use Rattle.kept_items.proofs.put_value.Goals as goal

pub loop-i-preserved : goal.loop-i-preserved
loop-i-preserved c = let a = c.args in value_more a.beat a.value.now a.out.now a.at _ _ _ c.requires c.loop-i-test.true c.fix.ensures c.loop-i.invariant

pub returns : goal.returns
returns c = let l = imap_length (fixed c.args.beat) 0 c.args.value.now in laying_done _ _ _ (omega arith) _ _ (omega arith) c.loop-i.invariant
