-- `mesh_c::record::mesh_cache_clear` meets its contract. Assumes nothing.
use mathlib.Core.Path.{sym, ap, ◌∙◌}
use Rattle.base.specs.Answers.{checked_number}
use Rattle.mesh_c.proofs.record.mesh_cache_clear.Goals as goal

pub returns-in-Accepted : goal.returns-in-Accepted
returns-in-Accepted c = record { answer = ap checked_number (sym c.in-Accepted.is ∙ c.clear.ensures.answer); words = c.clear.ensures.words }

pub returns-in-Refused : goal.returns-in-Refused
returns-in-Refused c = record { answer = ap checked_number (sym c.in-Refused.is ∙ c.clear.ensures.answer); words = c.clear.ensures.words }
