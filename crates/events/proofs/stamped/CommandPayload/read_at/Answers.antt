-- `events::stamped::CommandPayload::read_at` meets its contract. Assumes nothing.
use Rattle.events.specs.Read.{as_command, command_at}
use mathlib.Core.Path.{sym, ap, ◌∙◌}
use Rattle.events.proofs.stamped.CommandPayload.read_at.Goals as goal

pub returns-in-Refused : goal.returns-in-Refused
unfolding command_at
returns-in-Refused c = ap as_command (sym c.in-Refused.is ∙ c.read_at.ensures)

pub returns-in-Stamped : goal.returns-in-Stamped
unfolding command_at
returns-in-Stamped c = ap as_command (sym c.in-Stamped.is ∙ c.read_at.ensures)
