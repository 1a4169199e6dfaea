-- `mic::absorb::absorb_item` meets its contract. Assumes nothing.
use mathlib.Core.Bool.{Bool}
use mathlib.Core.Path.{ap, sym, ◌∙◌}
use Rattle.base.specs.Lists.{imap}
use Rattle.kept_items.specs.Kept.{fixed}
use Rattle.kept_items.proofs.Laws.{fixed_plain}
use Rattle.mic.proofs.Absorbing.{item_more}
use Rattle.mic.proofs.Bytes.{item_lt}
use Rattle.mic.proofs.absorb.absorb_item.Goals as goal

pub returns-then-beat : goal.returns-then-beat
returns-then-beat c = let v = c.args.value.now in
    record { state = item_more _ _ _ _ _ c.absorb-a.ensures _ _ v _ c.low_byte.ensures c.absorb_beat.ensures (ap (λ (b : Bool). imap (fixed b) 0 v) (sym c.if-beat.true)); bytes = item_lt c.args.beat _ v c.ranges.tag.fits (λ i. (c.shared_slice_known-1.given i).fits) }

pub returns : goal.returns
returns c = let v = c.args.value.now in
    record { state = item_more _ _ _ _ _ c.absorb-a.ensures _ _ v _ c.low_byte.ensures c.absorb.ensures (sym (ap (λ (b : Bool). imap (fixed b) 0 v) c.if-beat.false ∙ fixed_plain v)); bytes = item_lt c.args.beat _ v c.ranges.tag.fits (λ i. (c.shared_slice_known-1.given i).fits) }
