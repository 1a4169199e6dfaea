-- `kept_items::lay_item` meets its contract. Assumes nothing.
use Rattle.std.proofs.Common.{arith}
use Rattle.kept_items.proofs.Laws.{item_laid, head_put}
use Rattle.kept_items.proofs.lay_item.Goals as goal

pub returns : goal.returns
returns c = let a = c.args in item_laid a.beat a.tag a.value.now a.out.now a.at _ _ _ (omega arith) c.low_byte.ensures (head_put _ _ _ _ (omega arith)) c.put_value.ensures
