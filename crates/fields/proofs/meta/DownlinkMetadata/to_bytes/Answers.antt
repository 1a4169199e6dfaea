-- `fields::meta::DownlinkMetadata::to_bytes` meets its contract. Assumes nothing.
use Rattle.wire.specs.Number.{be_bytes}
use Rattle.base.specs.Answers.{Writing, bytes}
use Rattle.base.proofs.Lists.{◌◂◌}
use Rattle.fields.specs.Freq.{steps_wire}
use Rattle.fields.specs.Meta.{down_refusal, after_freq, down_wire, down_answer, down_bytes}
use Rattle.fields.specs.declared.meta.DownlinkMetadata.{DownlinkMetadata}
use Rattle.fields.specs.declared.freq.StepsRead.{StepsRead}
use Rattle.base.proofs.Answers.{is_refused, not_refused}
use Rattle.fields.proofs.Laws.Meta.{down_fits}
use native.Mathlib.Omega.{arith}
use mathlib.Core.Path.{◌≡◌, refl, sym, ap, ◌∙◌}
use Rattle.fields.proofs.meta.DownlinkMetadata.to_bytes.Goals as goal

abbrev with_steps : DownlinkMetadata → StepsRead → Writing
with_steps m s = after_freq m (steps_wire s)

pub returns-then-bad-ne0 : goal.returns-then-bad-ne0
unfolding down_bytes down_wire
returns-then-bad-ne0 c = c.refused.ensures ∙ ap down_answer (is_refused _ _ _ c.down_refusal-bad.ensures c.if-bad-ne0.true)

pub overflow_add-result : goal.overflow_add-result
overflow_add-result c = let f = down_fits _ (let none : down_refusal c.args.self ≡ 0 = sym c.down_refusal-bad.ensures ∙ c.if-bad-ne0.false in none) in omega arith

pub overflow_mul-result-in-Steps : goal.overflow_mul-result-in-Steps
overflow_mul-result-in-Steps c = let f = down_fits _ (let none : down_refusal c.args.self ≡ 0 = sym c.down_refusal-bad.ensures ∙ c.if-bad-ne0.false in none) in omega arith

pub overflow_sub-result : goal.overflow_sub-result
overflow_sub-result c = let f = down_fits _ (let none : down_refusal c.args.self ≡ 0 = sym c.down_refusal-bad.ensures ∙ c.if-bad-ne0.false in none) in omega arith

pub overflow_add-result-in-Steps : goal.overflow_add-result-in-Steps
overflow_add-result-in-Steps c = let f = down_fits _ (let none : down_refusal c.args.self ≡ 0 = sym c.down_refusal-bad.ensures ∙ c.if-bad-ne0.false in none) in omega arith

pub returns-in-Refused : goal.returns-in-Refused
unfolding down_bytes down_wire
returns-in-Refused c = c.refused-in-Refused.ensures ∙ ap down_answer (ap (with_steps c.args.self) (sym c.in-Refused.is ∙ c.steps.ensures) ∙ not_refused _ _ (let none : down_refusal c.args.self ≡ 0 = sym c.down_refusal-bad.ensures ∙ c.if-bad-ne0.false in none))

pub returns-in-Steps : goal.returns-in-Steps
unfolding down_bytes down_wire be_bytes
returns-in-Steps c = ap down_answer (ap bytes (refl ◂ refl ◂ refl ◂ refl ◂ (omega arith) ◂ refl)
    ∙ ap (with_steps c.args.self) (sym c.in-Steps.is ∙ c.steps.ensures) ∙ not_refused _ _ (let none : down_refusal c.args.self ≡ 0 = sym c.down_refusal-bad.ensures ∙ c.if-bad-ne0.false in none))
