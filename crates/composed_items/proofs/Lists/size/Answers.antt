-- `composed_items::Lists::size` meets its contract. Assumes nothing.
use mathlib.Core.Path.{sym, ◌∙◌}
use Rattle.composed_items.proofs.Faults.{sum_told, over_capped}
use Rattle.composed_items.proofs.Lists.size.Goals as goal

pub returns-in-Sum : goal.returns-in-Sum
returns-in-Sum c = sum_told _ _ (sym c.sum_up.ensures ∙ c.in-Sum.is)

pub returns-in-Over : goal.returns-in-Over
returns-in-Over c = over_capped _ (sym c.sum_up.ensures ∙ c.in-Over.is)
