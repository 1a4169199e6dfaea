-- `mesh_dump::put_line` meets its contract. Assumes nothing.
use native.Mathlib.Omega.{arith}
use mathlib.Core.Path.{sym, ap, ◌∙◌}
use Rattle.wire.specs.Lay.{put}
use Rattle.mesh_dump.proofs.Laws.{text_fits, text_most, text_out, text_part}
use Rattle.mesh_dump.proofs.put_line.Goals as goal

pub overflow_add-n : goal.overflow_add-n
overflow_add-n c = let m = text_most _ _ (sym c.in-Bytes.is ∙ c.dump_line.ensures.answer) in omega arith

pub overflow_add-result : goal.overflow_add-result
overflow_add-result c = let m = text_most _ _ (sym c.in-Bytes.is ∙ c.dump_line.ensures.answer) in omega arith

pub returns-in-Bytes : goal.returns-in-Bytes
returns-in-Bytes c = let e = sym c.in-Bytes.is ∙ c.dump_line.ensures.answer in
    record { value = text_out _ _ e; out_after = c.put_all.ensures ∙ ap (put _ _) (text_part _ _ e _ _ c.dump_line.ensures.bytes c.part.ensures) }

pub returns-in-Refused-clause-value : goal.returns-in-Refused-clause-value
returns-in-Refused-clause-value c = absurd (text_fits _ _ (sym c.in-Refused.is ∙ c.dump_line.ensures.answer))

pub returns-in-Refused-clause-out_after : goal.returns-in-Refused-clause-out_after
returns-in-Refused-clause-out_after c = absurd (text_fits _ _ (sym c.in-Refused.is ∙ c.dump_line.ensures.answer))
