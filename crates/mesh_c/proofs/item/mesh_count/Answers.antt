-- `mesh_c::item::mesh_count` meets its contract. Assumes nothing.
use mathlib.Core.Path.{sym, ap, ◌∙◌}
use Rattle.base.specs.Answers.{number_in, left_by}
use Rattle.items.specs.Items.{counts_say}
use Rattle.items.specs.declared.count.OpeningRead.{OpeningRead}
use Rattle.mesh_c.specs.Face.{count_list}
use Rattle.mesh_c.proofs.item.mesh_count.Goals as goal

pub returns-in-Refused : goal.returns-in-Refused
returns-in-Refused c =
    let e = sym c.in-Refused.is ∙ c.counted.ensures in record { answer = ap (λ (r : OpeningRead). number_in (counts_say r)) e; counts = ap (λ (r : OpeningRead). left_by count_list c.args.counts.now (counts_say r)) e }

pub returns-in-Opening : goal.returns-in-Opening
returns-in-Opening c =
    let e = sym c.in-Opening.is ∙ c.counted.ensures in record { answer = ap (λ (r : OpeningRead). number_in (counts_say r)) e; counts = c.counts_of.ensures ∙ ap (λ (r : OpeningRead). left_by count_list c.args.counts.now (counts_say r)) e }
