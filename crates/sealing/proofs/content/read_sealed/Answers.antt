-- `sealing::content::read_sealed` meets its contract. Assumes nothing.
use mathlib.Core.Path.{ap, ◌∙◌}
use borrow.Author.Tests.{lt-ltb, le-ltb}
use Rattle.items.specs.Items.{opening_of}
use Rattle.contents.specs.declared.content.Held.TheVariants.{Frame as InFrame}
use Rattle.sealing.specs.Open.{read_sealed, opened_as}
use Rattle.sealing.proofs.Steps.{is_refused, is_passed}
use Rattle.sealing.proofs.content.read_sealed.Goals as goal

pub returns-then-bad-ne0 : goal.returns-then-bad-ne0
unfolding read_sealed
returns-then-bad-ne0 c = is_refused _ _ _ c.refusal-bad.ensures c.if-bad-ne0.true

pub returns-then-run-gt-PAYLOAD : goal.returns-then-run-gt-PAYLOAD
unfolding read_sealed
returns-then-run-gt-PAYLOAD c = simp (lt-ltb _ _ c.if-run-gt-PAYLOAD.true) (is_passed _ _ _ c.refusal-bad.ensures c.if-bad-ne0.false)

pub returns : goal.returns
unfolding read_sealed
returns c = c.by.ensures ∙ ap (opened_as InFrame _) (c.count_items.ensures ∙ ap (opening_of _) c.bytes.ensures) ∙ simp (le-ltb _ _ c.if-run-gt-PAYLOAD.false) (is_passed _ _ _ c.refusal-bad.ensures c.if-bad-ne0.false)
