-- `items::item::ItemsIterator::next` meets its contract. Assumes nothing.
use Rattle.std.proofs.Common.{rules, sym, refl}
use Rattle.items.proofs.Laws.{ahead, over}
use Rattle.items.proofs.item.ItemsIterator.next.Goals as goal

pub returns-in-End-clause-steps : goal.returns-in-End-clause-steps
returns-in-End-clause-steps c = (refl, refl, (over _ _ _ _ (sym c.next_item-read.ensures) c.in-End.is, refl))

pub returns-in-Kept-clause-steps : goal.returns-in-Kept-clause-steps
returns-in-Kept-clause-steps c =
    let a = ahead _ _ _ _ (sym c.next_item-read.ensures) _ c.in-Kept.is in
    (refl, refl, (a.0, rw c.in-Kept.read-is (sym c.next_item-read.ensures), rw c.in-Kept.read-is a.1))

pub returns-in-Kept-clause-goes : goal.returns-in-Kept-clause-goes
returns-in-Kept-clause-goes c = let a = ahead _ _ _ _ (sym c.next_item-read.ensures) _ c.in-Kept.is in search rules
