-- `sealing::command::encrypt` meets its contract. Assumes nothing.
use lib.ListN.{length}
use mathlib.Core.Path.{sym, ap, ◌∙◌}
use Rattle.base.proofs.Answers.{out_length}
use Rattle.contents.specs.declared.content.Content.{Content}
use Rattle.events.specs.declared.stamped.CommandRead.TheVariants.{Payload}
use Rattle.sealing.specs.Seal.{command_seal, command_sealed}
use Rattle.sealing.proofs.command.encrypt.Goals as goal

pub shape_of-out-in-Refused : goal.shape_of-out-in-Refused
shape_of-out-in-Refused c = ap length c.encrypt.ensures.bytes ∙ out_length _ _

pub returns-in-Refused : goal.returns-in-Refused
unfolding command_seal command_sealed
returns-in-Refused c = let p = c.args.payload in
    record { answer = ap (command_sealed p) (sym c.in-Refused.is ∙ c.encrypt.ensures.answer); bytes = c.encrypt.ensures.bytes }

pub shape_of-out-in-Bytes : goal.shape_of-out-in-Bytes
shape_of-out-in-Bytes c = ap length c.encrypt.ensures.bytes ∙ out_length _ _

pub returns-in-Bytes : goal.returns-in-Bytes
unfolding command_seal command_sealed
returns-in-Bytes c = let p = c.args.payload in
    record { answer = ap (λ (b : Content). Payload (record { timestamp = p.timestamp; relay_id = p.relay_id; commands = b })) c.of.ensures ∙ ap (command_sealed p) (sym c.in-Bytes.is ∙ c.encrypt.ensures.answer); bytes = c.encrypt.ensures.bytes }
