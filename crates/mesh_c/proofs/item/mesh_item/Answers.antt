-- `mesh_c::item::mesh_item` meets its contract. Assumes nothing.
use mathlib.Core.Path.{sym, ap, ◌∙◌}
use Rattle.base.specs.Answers.{number_in, left_by}
use Rattle.items.specs.Items.{item_says}
use Rattle.items.specs.declared.item.ItemRead.{ItemRead}
use Rattle.mesh_c.specs.Face.{found_list}
use Rattle.mesh_c.proofs.item.mesh_item.Goals as goal

pub returns-in-Refused : goal.returns-in-Refused
returns-in-Refused c =
    let e = sym c.in-Refused.is ∙ c.decoded.ensures in record { answer = ap (λ (r : ItemRead). number_in (item_says r)) e; item = ap (λ (r : ItemRead). left_by found_list c.args.item.now (item_says r)) e }

pub returns-in-End : goal.returns-in-End
returns-in-End c =
    let e = sym c.in-End.is ∙ c.decoded.ensures in record { answer = ap (λ (r : ItemRead). number_in (item_says r)) e; item = ap (λ (r : ItemRead). left_by found_list c.args.item.now (item_says r)) e }

pub returns-in-Cut : goal.returns-in-Cut
returns-in-Cut c =
    let e = sym c.in-Cut.is ∙ c.decoded.ensures in record { answer = ap (λ (r : ItemRead). number_in (item_says r)) e; item = ap (λ (r : ItemRead). left_by found_list c.args.item.now (item_says r)) e }

pub returns-in-Kept : goal.returns-in-Kept
returns-in-Kept c =
    let e = sym c.in-Kept.is ∙ c.decoded.ensures in record { answer = ap (λ (r : ItemRead). number_in (item_says r)) e; item = c.item_numbers.ensures ∙ ap (λ (r : ItemRead). left_by found_list c.args.item.now (item_says r)) e }

pub returns-in-Skipped : goal.returns-in-Skipped
returns-in-Skipped c =
    let e = sym c.in-Skipped.is ∙ c.decoded.ensures in record { answer = ap (λ (r : ItemRead). number_in (item_says r)) e; item = c.item_numbers-in-Skipped.ensures ∙ ap (λ (r : ItemRead). left_by found_list c.args.item.now (item_says r)) e }
