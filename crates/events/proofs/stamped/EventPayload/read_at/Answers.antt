-- `events::stamped::EventPayload::read_at` meets its contract. Assumes nothing.
use Rattle.events.specs.Read.{as_event, event_at}
use mathlib.Core.Path.{sym, ap, ◌∙◌}
use Rattle.events.proofs.stamped.EventPayload.read_at.Goals as goal

pub returns-in-Refused : goal.returns-in-Refused
unfolding event_at
returns-in-Refused c = ap as_event (sym c.in-Refused.is ∙ c.read_at.ensures)

pub returns-in-Stamped : goal.returns-in-Stamped
unfolding event_at
returns-in-Stamped c = ap as_event (sym c.in-Stamped.is ∙ c.read_at.ensures)
