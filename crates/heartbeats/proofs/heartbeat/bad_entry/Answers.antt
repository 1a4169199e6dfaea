-- `heartbeats::heartbeat::bad_entry` meets its contract. Assumes nothing.
use mathlib.Core.Path.{sym, ap, ◌∙◌}
use Rattle.base.proofs.Answers.{accepted_is, refused_is}
use Rattle.fields.specs.Path.{path_wire, path_bytes}
use Rattle.fields.specs.declared.path.PathBytes.{PathBytes}
use Rattle.fields.specs.Path.{bad_entry}
use Rattle.base.specs.Answers.{frame_number}
use Rattle.heartbeats.proofs.heartbeat.bad_entry.Goals as goal

pub returns-in-Accepted : goal.returns-in-Accepted
unfolding bad_entry path_bytes
returns-in-Accepted c = sym (ap frame_number (accepted_is (path_wire c.args.p) 6 (sym (ap (λ (x : PathBytes). x.answer) c.to_bytes-b.ensures) ∙ c.in-Accepted.is)))

pub returns-in-Refused : goal.returns-in-Refused
unfolding bad_entry path_bytes
returns-in-Refused c = sym (ap frame_number (refused_is (path_wire c.args.p) _ (sym (ap (λ (x : PathBytes). x.answer) c.to_bytes-b.ensures) ∙ c.in-Refused.is)))
