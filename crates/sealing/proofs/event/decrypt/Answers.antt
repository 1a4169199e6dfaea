-- `sealing::event::decrypt` meets its contract. Assumes nothing.
use mathlib.Core.Path.{ap, ◌∙◌}
use Rattle.sealing.specs.Seal.{event_opened}
use Rattle.sealing.proofs.event.decrypt.Goals as goal

pub returns : goal.returns
returns c = record { answer = c.opened.ensures ∙ ap (event_opened c.args.payload) c.decrypt.ensures.answer; work = c.decrypt.ensures.work }
