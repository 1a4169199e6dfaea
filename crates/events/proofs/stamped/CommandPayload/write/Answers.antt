-- `events::stamped::CommandPayload::write` meets its contract. Assumes nothing.
use lib.ListN.{length}
use mathlib.Core.Path.{sym, ap, ◌∙◌}
use mathlib.Core.Bool.{false}
use Rattle.base.proofs.Answers.{out_length}
use Rattle.links.specs.Write.{limited_of}
use Rattle.links.proofs.Steps.{same_frame}
use Rattle.events.specs.Write.{stamped_wire, command_wire}
use Rattle.events.specs.declared.stamped.Stamped.{Stamped}
use Rattle.events.proofs.stamped.CommandPayload.write.Goals as goal

pub shape_of-out : goal.shape_of-out
shape_of-out c = ap length c.write.ensures.bytes ∙ out_length _ _

pub returns : goal.returns
unfolding command_wire
returns c = let a = c.args in
    (let both = same_frame _ _ _ _ _ (ap (λ (p : Stamped). limited_of (stamped_wire false a.lent.now p)) (sym c.stamped.ensures)) (c.write.ensures.answer, c.write.ensures.bytes) in record { answer = both.0; bytes = both.1 })
