-- `items::item::Event::decode` meets its contract. Assumes nothing.
use Rattle.base.proofs.Picks.{picks}
use Rattle.items.specs.Items.{bare_item_at}
use borrow.Author.Tests.{le-ltb}
use Rattle.items.proofs.item.Event.decode.Goals as goal

pub returns-then-payload-gt-PAYLOAD : goal.returns-then-payload-gt-PAYLOAD
unfolding bare_item_at
returns-then-payload-gt-PAYLOAD c = search picks

pub returns : goal.returns
unfolding bare_item_at
returns c = simp (le-ltb _ _ c.if-payload-gt-PAYLOAD.false) c.next_item.ensures
