-- `items::item::is_beat` meets its contract. Assumes nothing.
use Rattle.items.proofs.item.is_beat.Goals as goal

pub returns-then-is_event : goal.returns-then-is_event
returns-then-is_event c = simp c.if-is_event.true

pub returns : goal.returns
returns c = simp c.if-is_event.false
