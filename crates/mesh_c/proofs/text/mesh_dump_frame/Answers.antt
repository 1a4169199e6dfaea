-- `mesh_c::text::mesh_dump_frame` meets its contract. Assumes nothing.
use lib.ListN.{length}
use mathlib.Core.Path.{ap, ◌∙◌}
use Rattle.base.specs.Answers.{number_in, left_by, written_says}
use Rattle.base.specs.declared.Written.{Written}
use Rattle.base.proofs.Answers.{out_length}
use Rattle.mesh_c.specs.Face.{as_it_is}
use Rattle.mesh_c.proofs.text.mesh_dump_frame.Goals as goal

pub shape_of-out : goal.shape_of-out
shape_of-out c = ap length c.dump_frame.ensures.bytes ∙ out_length _ _

pub returns : goal.returns
returns c =
    let a = c.args in
    record { answer = c.put_length.ensures.answer ∙ ap (λ (x : Written). number_in (written_says x)) c.dump_frame.ensures.answer; out = c.dump_frame.ensures.bytes; length = c.put_length.ensures.length ∙ ap (λ (x : Written). left_by as_it_is a.length.now (written_says x)) c.dump_frame.ensures.answer }
