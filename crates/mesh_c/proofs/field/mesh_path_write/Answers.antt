-- `mesh_c::field::mesh_path_write` meets its contract. Assumes nothing.
use mir.Facts.{to_z-of_z}
use mir.Syntax.{w8, w16}
use mathlib.Core.Path.{◌≡◌, sym, ap, ap₂, ◌∙◌}
use lib.IntN.{ℤ}
use Rattle.base.specs.Answers.{number_in, left_by, checked_says}
use Rattle.base.specs.declared.Checked.{Checked}
use Rattle.fields.specs.Path.{path_bytes}
use Rattle.fields.specs.declared.path.PathBytes.{PathBytes}
use Rattle.mesh_c.specs.Face.{as_it_is}
use Rattle.mesh_c.proofs.field.mesh_path_write.Goals as goal

pub returns-in-Refused : goal.returns-in-Refused
returns-in-Refused c =
    let old = c.args.b.now in
    let l = c.to_bytes-made.result.bytes in
    let e = sym c.in-Refused.is in
    let a = c.args in
    -- the two signed numbers go through their bits
    let w : c.to_bytes-made.result ≡ path_bytes (record { relay_id = a.relay_id; rssi = a.rssi; snr = a.snr; odd = 0 }) =
    c.to_bytes-made.ensures
    ∙ ap₂ (λ (x y : ℤ). path_bytes (record { relay_id = a.relay_id; rssi = x; snr = y; odd = 0 })) (to_z-of_z {w = w16} c.ranges.rssi) (to_z-of_z {w = w8} c.ranges.snr)
    in
    record { answer = ap (λ (a : Checked). number_in (checked_says a l)) e ∙ ap (λ (r : PathBytes). number_in (checked_says r.answer r.bytes)) w; b = ap (λ (a : Checked). left_by as_it_is old (checked_says a l)) e ∙ ap (λ (r : PathBytes). left_by as_it_is old (checked_says r.answer r.bytes)) w }

pub returns-in-Accepted : goal.returns-in-Accepted
returns-in-Accepted c =
    let old = c.args.b.now in
    let l = c.to_bytes-made.result.bytes in
    let e = sym c.in-Accepted.is in
    let a = c.args in
    -- the two signed numbers go through their bits
    let w : c.to_bytes-made.result ≡ path_bytes (record { relay_id = a.relay_id; rssi = a.rssi; snr = a.snr; odd = 0 }) =
    c.to_bytes-made.ensures
    ∙ ap₂ (λ (x y : ℤ). path_bytes (record { relay_id = a.relay_id; rssi = x; snr = y; odd = 0 })) (to_z-of_z {w = w16} c.ranges.rssi) (to_z-of_z {w = w8} c.ranges.snr)
    in
    record { answer = ap (λ (a : Checked). number_in (checked_says a l)) e ∙ ap (λ (r : PathBytes). number_in (checked_says r.answer r.bytes)) w; b = ap (λ (a : Checked). left_by as_it_is old (checked_says a l)) e ∙ ap (λ (r : PathBytes). left_by as_it_is old (checked_says r.answer r.bytes)) w }
