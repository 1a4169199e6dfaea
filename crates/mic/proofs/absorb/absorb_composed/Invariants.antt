-- `mic::absorb::absorb_composed` meets its contract. Assumes nothing.
use lib.ListN.{drop}
use Rattle.base.specs.Lists.{joined}
use Rattle.cipher.specs.inner.Words.{enciphered}
use Rattle.composed_items.specs.Composed.{items_in, item_wire, composed_bytes}
use Rattle.mic.proofs.Absorbing.{Whole}
use Rattle.mic.proofs.absorb.absorb_composed.Given as goal

abbrev pub invariant-loop-i : goal.invariant-loop-i
invariant-loop-i l =
    Whole (enciphered l.e) l.initial.a (composed_bytes l.is_event l.lists l.count) l.a (joined (item_wire l.is_event l.lists) (drop l.i (items_in l.lists l.count)))
