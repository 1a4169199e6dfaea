-- `mesh_c::item::mesh_heartbeat_entry` meets its contract. Assumes nothing.
use mir.Facts.{to_z-of_z}
use mir.Syntax.{w8, w16}
use mathlib.Core.Path.{sym, ap, ◌∙◌}
use Rattle.base.specs.Answers.{number_in, left_by}
use Rattle.heartbeats.specs.Heartbeat.{path_says}
use Rattle.heartbeats.specs.declared.heartbeat.PathRead.{PathRead}
use Rattle.mesh_c.specs.Face.{entry_relay, entry_rssi, entry_snr, entry_odd}
use Rattle.mesh_c.proofs.item.mesh_heartbeat_entry.Goals as goal

pub returns-in-Refused : goal.returns-in-Refused
returns-in-Refused c =
    let a = c.args in
    let e = sym c.in-Refused.is ∙ c.entry.ensures in record { answer = ap (λ (r : PathRead). number_in (path_says r)) e; relay_id = ap (λ (r : PathRead). left_by entry_relay a.relay_id.now (path_says r)) e; rssi = ap (λ (r : PathRead). left_by entry_rssi a.rssi.now (path_says r)) e; snr = ap (λ (r : PathRead). left_by entry_snr a.snr.now (path_says r)) e; odd = ap (λ (r : PathRead). left_by entry_odd a.odd.now (path_says r)) e }

-- the two signed numbers go through their bits
pub returns-in-Entry : goal.returns-in-Entry
returns-in-Entry c =
    let a = c.args in
    let e = sym c.in-Entry.is ∙ c.entry.ensures in record { answer = ap (λ (r : PathRead). number_in (path_says r)) e; relay_id = ap (λ (r : PathRead). left_by entry_relay a.relay_id.now (path_says r)) e; rssi = to_z-of_z {w = w16} (record { sfits = c.struct_told-1.given.1.0.1 }) ∙ ap (λ (r : PathRead). left_by entry_rssi a.rssi.now (path_says r)) e; snr = to_z-of_z {w = w8} (record { sfits = c.struct_told-in-Entry-1.given.1.1.0.1 }) ∙ ap (λ (r : PathRead). left_by entry_snr a.snr.now (path_says r)) e; odd = ap (λ (r : PathRead). left_by entry_odd a.odd.now (path_says r)) e }
