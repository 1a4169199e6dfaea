-- `sealing::command::decode` meets its contract. Assumes nothing.
use mathlib.Core.Path.{ap, ◌∙◌}
use Rattle.sealing.specs.Seal.{command_opened}
use Rattle.sealing.proofs.command.decode.Goals as goal

pub returns : goal.returns
returns c = c.opened.ensures ∙ ap (command_opened c.args.payload) c.decode.ensures
