-- `mesh_c::field::mesh_path_read` meets its contract. Assumes nothing.
use mir.Facts.{to_z-of_z}
use mir.Syntax.{w8, w16}
use mathlib.Core.Path.{ap, ◌∙◌}
use Rattle.fields.specs.declared.path.RelayPath.{RelayPath}
use Rattle.mesh_c.proofs.field.mesh_path_read.Goals as goal

-- the two signed numbers go through their bits
pub returns : goal.returns
returns c =
    let e = c.from_bytes-p.ensures in record { relay_id = ap (λ (p : RelayPath). p.relay_id) e; rssi = to_z-of_z {w = w16} (record { sfits = c.struct_told-1.given.1.0.1 }) ∙ ap (λ (p : RelayPath). p.rssi) e; snr = to_z-of_z {w = w8} (record { sfits = c.struct_told-2-1.given.1.1.0.1 }) ∙ ap (λ (p : RelayPath). p.snr) e; odd = ap (λ (p : RelayPath). p.odd) e }
