-- `mic::absorb::absorb_composed` meets its contract. Assumes nothing.
use mathlib.Core.Path.{refl}
use Rattle.composed_items.specs.Composed.{item_wire, composed_bytes}
use Rattle.composed_items.proofs.Loops.{ahead, none_left}
use Rattle.mic.proofs.Absorbing.{whole_more, whole_none}
use Rattle.mic.proofs.absorb.absorb_composed.Goals as goal

pub loop-i-init : goal.loop-i-init
unfolding composed_bytes
loop-i-init c = record { left = record { same = refl }; small = λ h. h }

pub loop-i-preserved : goal.loop-i-preserved
loop-i-preserved c = let a = c.args in let l = a.lists.now in
    whole_more _ _ _ _ _ c.loop-i.invariant (item_wire a.is_event l _) _ _ (ahead a.is_event a.count l _ c.item_count-i-end.ensures _ _ c.loop-i-test.true c.item_at.ensures) c.absorb_one-b.ensures.state
    c.absorb_one-b.ensures.bytes

pub returns : goal.returns
returns c = let a = c.args in
    (let both = whole_none _ _ _ _ _ c.loop-i.invariant (none_left a.is_event a.count a.lists.now _ c.item_count-i-end.ensures _ c.loop-i-test.false) in record { state = both.0; bytes = both.1 })
