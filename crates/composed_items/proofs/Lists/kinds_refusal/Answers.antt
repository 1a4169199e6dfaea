-- `composed_items::Lists::kinds_refusal` meets its contract. Assumes nothing.
use borrow.Author.Rules.{rules}
use Rattle.composed_items.specs.Composed.{bad_kind, kinds_refusal}
use Rattle.composed_items.proofs.Lists.kinds_refusal.Goals as goal

pub returns : goal.returns
unfolding kinds_refusal
returns c = c.first.ensures (bad_kind c.args.is_event) (λ it r p. search rules)
