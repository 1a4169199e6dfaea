-- `items::item::Event::count` meets its contract. Assumes nothing.
use Rattle.base.proofs.Picks.{picks}
use Rattle.items.specs.Items.{counts_of}
use Rattle.items.specs.declared.count.OpeningRead.TheVariants.{Opening as Counted}
use borrow.Author.Tests.{le-ltb}
use mathlib.Core.Path.{ap}
use Rattle.items.proofs.item.Event.count.Goals as goal

pub returns-then-payload-gt-PAYLOAD : goal.returns-then-payload-gt-PAYLOAD
unfolding counts_of
returns-then-payload-gt-PAYLOAD c = search picks

pub returns : goal.returns
unfolding counts_of
returns c = simp (le-ltb _ _ c.if-payload-gt-PAYLOAD.false) (ap Counted c.count_items.ensures)
