-- `kept_items::put_value` meets its contract. Assumes nothing.
use Rattle.base.specs.Lists.{imap}
use Rattle.wire.proofs.Laws.Lay.{Laying}
use Rattle.kept_items.specs.Kept.{fixed}
use Rattle.kept_items.proofs.put_value.Given as goal

abbrev pub invariant-loop-i : goal.invariant-loop-i
invariant-loop-i l =
    Laying l.initial.out l.at (imap (fixed l.beat) 0 l.value) l.out l.i
