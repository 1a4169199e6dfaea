-- `sealing::event::decode` meets its contract. Assumes nothing.
use mathlib.Core.Path.{ap, ◌∙◌}
use Rattle.sealing.specs.Seal.{event_opened}
use Rattle.sealing.proofs.event.decode.Goals as goal

pub returns : goal.returns
returns c = c.opened.ensures ∙ ap (event_opened c.args.payload) c.decode.ensures
