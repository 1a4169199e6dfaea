-- `mesh_c::item::mesh_heartbeat_write` meets its contract. Assumes nothing.
use mathlib.Core.Path.{ap, ◌∙◌}
use Rattle.base.specs.Answers.{number_in, left_by, written_says}
use Rattle.base.specs.declared.Written.{Written}
use Rattle.mesh_c.specs.Face.{as_it_is}
use Rattle.mesh_c.proofs.item.mesh_heartbeat_write.Goals as goal

pub returns : goal.returns
returns c =
    let a = c.args in
    record { answer = c.put_length.ensures.answer ∙ ap (λ (x : Written). number_in (written_says x)) c.write.ensures.answer; out = c.write.ensures.bytes; length = c.put_length.ensures.length ∙ ap (λ (x : Written). left_by as_it_is a.length.now (written_says x)) c.write.ensures.answer }
