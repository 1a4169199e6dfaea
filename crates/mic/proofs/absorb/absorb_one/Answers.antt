-- `mic::absorb::absorb_one` meets its contract. Assumes nothing.
use mathlib.Core.Path.{ap, sym, ◌∙◌, subst}
use mathlib.Core.List.{foldl}
use Rattle.base.specs.Lists.{Bytes}
use Rattle.composed_items.proofs.Runs.{path_wire_lem, value_wire}
use Rattle.mic.proofs.Bytes.{path_item_lt}
use Rattle.mic.proofs.absorb.absorb_one.Goals as goal

pub returns-then-is_path : goal.returns-then-is_path
returns-then-is_path c =
    let e = path_wire_lem _ _ _ (sym c.is_path.ensures ∙ c.if-is_path.true) _ c.run.ensures in
    rw (← c.lists.view_is) (record { state = c.absorb_path.ensures ∙ ap (foldl _ _) (sym e); bytes = subst Bytes (sym e) (path_item_lt _ _ _) })

pub returns : goal.returns
returns c =
    let e = value_wire _ _ _ _ c.run-2.ensures (sym c.is_path.ensures ∙ c.if-is_path.false) _ _ c.is_beat.ensures c.bytes.ensures in
    rw (← c.lists.view_is) (record { state = c.absorb_item.ensures.state ∙ ap (foldl _ _) (sym e); bytes = subst Bytes (sym e) c.absorb_item.ensures.bytes })
