-- `mesh_c::item::mesh_heartbeat` meets its contract. Assumes nothing.
use mathlib.Core.Path.{sym, ap, ◌∙◌}
use Rattle.base.specs.Answers.{number_in, left_by}
use Rattle.heartbeats.specs.Heartbeat.{beat_says}
use Rattle.heartbeats.specs.declared.heartbeat.HeartbeatRead.{HeartbeatRead}
use Rattle.mesh_c.specs.Face.{entries_in}
use Rattle.mesh_c.proofs.item.mesh_heartbeat.Goals as goal

pub returns-in-Refused : goal.returns-in-Refused
returns-in-Refused c =
    let e = sym c.in-Refused.is ∙ c.check.ensures in record { answer = ap (λ (r : HeartbeatRead). number_in (beat_says r)) e; entries = ap (λ (r : HeartbeatRead). left_by entries_in c.args.entries.now (beat_says r)) e }

pub returns-in-Heartbeat : goal.returns-in-Heartbeat
returns-in-Heartbeat c =
    let e = sym c.in-Heartbeat.is ∙ c.check.ensures in record { answer = ap (λ (r : HeartbeatRead). number_in (beat_says r)) e; entries = ap (λ (r : HeartbeatRead). left_by entries_in c.args.entries.now (beat_says r)) e }
