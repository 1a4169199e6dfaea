-- `fields::freq::encode_freq` meets its contract. Assumes nothing.
use mathlib.Core.List.{List}
use Prim.Native.Nat.{ℕ}
use Rattle.base.specs.Answers.{bytes}
use Rattle.fields.specs.Freq.{freq_bytes, freq_answer, steps_wire}
use Rattle.fields.specs.declared.freq.StepsRead.{StepsRead}
use mathlib.Core.Path.{sym, ap, ◌∙◌}
use Rattle.fields.proofs.freq.encode_freq.Goals as goal

pub returns-in-Steps : goal.returns-in-Steps
unfolding freq_bytes
returns-in-Steps c = ap (λ (l : List ℕ). freq_answer (bytes l)) c.be24_bytes.ensures
    ∙ ap (λ (s : StepsRead). freq_answer (steps_wire s)) (sym c.in-Steps.is ∙ c.steps.ensures)

pub returns-in-Refused : goal.returns-in-Refused
unfolding freq_bytes
returns-in-Refused c = ap (λ (s : StepsRead). freq_answer (steps_wire s)) (sym c.in-Refused.is ∙ c.steps.ensures)
