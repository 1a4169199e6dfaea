-- `fields::meta::down_refusal` meets its contract. Assumes nothing.
use Rattle.fields.specs.Meta.{down_refusal}
use Rattle.base.proofs.Picks.{picks}
use Rattle.fields.proofs.meta.down_refusal.Goals as goal

pub returns-then-bad-ne0 : goal.returns-then-bad-ne0
unfolding down_refusal
returns-then-bad-ne0 c = rw (← c.id_refusal-bad.ensures) (search picks)

pub returns-then-m-lt-LEAST : goal.returns-then-m-lt-LEAST
unfolding down_refusal
returns-then-m-lt-LEAST c = rw (← c.id_refusal-bad.ensures) (search picks)

pub returns-then-m-gt-MOST : goal.returns-then-m-gt-MOST
unfolding down_refusal
returns-then-m-gt-MOST c = rw (← c.id_refusal-bad.ensures) (search picks)

pub returns-then-m-gt-MOST-2 : goal.returns-then-m-gt-MOST-2
unfolding down_refusal
returns-then-m-gt-MOST-2 c = rw (← c.id_refusal-bad.ensures) (search picks)

pub returns : goal.returns
unfolding down_refusal
returns c = rw (← c.id_refusal-bad.ensures) (search picks)
