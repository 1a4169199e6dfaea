-- `wire::run::Run::refusal` meets its contract. Assumes nothing.
use Rattle.wire.specs.Part.{reach_number}
use Rattle.wire.specs.Run.{run_refusal}
use mathlib.Core.Path.{sym, ap, ◌∙◌}
use Rattle.wire.proofs.run.Run.refusal.Goals as goal

pub returns-in-Inside : goal.returns-in-Inside
unfolding run_refusal
returns-in-Inside c = ap reach_number (sym c.in-Inside.is ∙ c.reaches.ensures)

pub returns-in-Refused : goal.returns-in-Refused
unfolding run_refusal
returns-in-Refused c = ap reach_number (sym c.in-Refused.is ∙ c.reaches.ensures)
