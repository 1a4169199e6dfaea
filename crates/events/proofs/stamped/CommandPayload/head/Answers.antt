-- `events::stamped::CommandPayload::head` meets its contract. Assumes nothing.
use Rattle.events.specs.Write.{stamp}
use Rattle.events.specs.declared.stamped.Stamped.{Stamped}
use mathlib.Core.Path.{ap, ◌∙◌}
use Rattle.events.proofs.stamped.CommandPayload.head.Goals as goal

pub returns : goal.returns
returns c = c.head.ensures ∙ ap (λ (s : Stamped). stamp s.timestamp s.relay_id) c.stamped.ensures
