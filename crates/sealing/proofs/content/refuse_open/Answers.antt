-- `sealing::content::refuse_open` meets its contract. Assumes nothing.
use mathlib.Core.Path.{refl, ◌∙◌}
use Rattle.sealing.specs.Open.{open_refusal}
use Rattle.sealing.proofs.Steps.{is_refused, is_passed}
use Rattle.sealing.proofs.content.refuse_open.Goals as goal

pub returns-then-bad-ne0 : goal.returns-then-bad-ne0
returns-then-bad-ne0 c = is_refused _ _ _ c.open_refusal-bad.ensures c.if-bad-ne0.true

pub returns-then-outside-ne0 : goal.returns-then-outside-ne0
returns-then-outside-ne0 c = is_refused _ _ _ refl c.if-outside-ne0.true ∙ is_passed (open_refusal c.args.kept) _ _ c.open_refusal-bad.ensures c.if-bad-ne0.false

pub returns : goal.returns
returns c = c.none.ensures ∙ is_passed c.args.outside _ _ refl c.if-outside-ne0.false ∙ is_passed (open_refusal c.args.kept) _ _ c.open_refusal-bad.ensures c.if-bad-ne0.false
