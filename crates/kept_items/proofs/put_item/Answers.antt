-- `kept_items::put_item` meets its contract. Assumes nothing.
use Rattle.std.proofs.Common.{arith}
use Rattle.kept_items.proofs.Laws.{item_none}
use Rattle.kept_items.proofs.put_item.Goals as goal

pub returns-else-value-saturating_sub : goal.returns-else-value-saturating_sub
returns-else-value-saturating_sub c = let a = c.args in item_none a.beat a.tag a.value.now a.out.now a.at (omega arith)
