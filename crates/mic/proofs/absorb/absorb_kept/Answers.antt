-- `mic::absorb::absorb_kept` meets its contract. Assumes nothing.
use native.Mathlib.Omega.{arith}
use mathlib.Core.Path.{refl, sym, ◌∙◌}
use Rattle.items.proofs.Laws.{turn}
use Rattle.kept_items.specs.Kept.{item_bytes, open_bytes}
use Rattle.kept_items.proofs.Loop.{kept_ahead, skipped_ahead, cut_ahead, end_ahead}
use Rattle.mic.proofs.Absorbing.{left_more, left_same, left_none}
use Rattle.mic.proofs.Bytes.{open_lt}
use Rattle.mic.proofs.absorb.absorb_kept.Goals as goal

pub loop-item-init : goal.loop-item-init
unfolding open_bytes
loop-item-init c = record { same = refl }

pub loop-item-smaller-in-Kept : goal.loop-item-smaller-in-Kept
loop-item-smaller-in-Kept c = let t = turn _ _ _ _ (sym c.next_item.ensures ∙ c.in-Kept.is) in omega arith

pub loop-item-preserved-in-Kept : goal.loop-item-preserved-in-Kept
loop-item-preserved-in-Kept c = left_more _ _ _ _ _ c.loop-item.invariant (item_bytes _ _ _) _ _ (kept_ahead _ _ _ _ _ (sym c.next_item.ensures ∙ c.in-Kept.is) _ _ c.is_beat.ensures c.bytes.ensures) c.absorb_item-b.ensures.state

pub loop-item-smaller : goal.loop-item-smaller
loop-item-smaller c = let t = turn _ _ _ _ (sym c.next_item.ensures ∙ c.in-Skipped.is) in omega arith

pub loop-item-preserved : goal.loop-item-preserved
loop-item-preserved c = left_same _ _ _ _ _ c.loop-item.invariant _ (skipped_ahead _ _ _ _ _ (sym c.next_item.ensures ∙ c.in-Skipped.is))

pub returns-in-Cut : goal.returns-in-Cut
returns-in-Cut c = record { state = left_none _ _ _ _ _ c.loop-item.invariant (cut_ahead _ _ _ _ _ (sym c.next_item.ensures ∙ c.in-Cut.is)); bytes = open_lt _ _ (λ i. (c.shared_slice_known-1.given i).fits) }

pub returns-in-End : goal.returns-in-End
returns-in-End c = record { state = left_none _ _ _ _ _ c.loop-item.invariant (end_ahead _ _ _ _ (sym c.next_item.ensures ∙ c.in-End.is)); bytes = open_lt _ _ (λ i. (c.shared_slice_known-1.given i).fits) }

pub returns-in-Refused : goal.returns-in-Refused
returns-in-Refused c = absurd (turn _ _ _ _ (sym c.next_item.ensures ∙ c.in-Refused.is))
