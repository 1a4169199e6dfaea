-- `fields::meta::id_refusal` meets its contract. Assumes nothing.
use Rattle.fields.specs.Meta.{id_refusal}
use Rattle.base.proofs.Picks.{picks}
use Rattle.fields.proofs.meta.id_refusal.Goals as goal

pub returns-then-id-gt-MOST : goal.returns-then-id-gt-MOST
unfolding id_refusal
returns-then-id-gt-MOST c = search picks

pub returns-then-dr-gt-MOST : goal.returns-then-dr-gt-MOST
unfolding id_refusal
returns-then-dr-gt-MOST c = search picks

pub returns : goal.returns
unfolding id_refusal
returns c = search picks
