-- `mesh_c::field::mesh_uplink_metadata_read` meets its contract. Assumes nothing.
use mir.Facts.{to_z-of_z}
use mir.Syntax.{w8, w16}
use mathlib.Core.Path.{refl, ap, ap₂, ◌∙◌}
use mathlib.Core.List.{◌∷◌}
use Rattle.fields.specs.declared.meta.UplinkMetadata.{UplinkMetadata}
use Rattle.mesh_c.specs.Face.{up_list}
use Rattle.mesh_c.proofs.field.mesh_uplink_metadata_read.Goals as goal

-- the two signed numbers go through their bits
pub returns : goal.returns
returns c =
    let e = c.from_bytes-m.ensures in
    let n =
    ap₂ ◌∷◌ c.from_u16.ensures
    (ap₂ ◌∷◌ c.from_u8.ensures
    (ap₂ ◌∷◌ c.from_u8-2.ensures
    (ap₂ ◌∷◌ c.from_u8-3.ensures refl))) in record { numbers = n ∙ ap up_list e; rssi = to_z-of_z {w = w16} (record { sfits = c.struct_told-1.given.1.1.0.1 }) ∙ ap (λ (m : UplinkMetadata). m.rssi) e; snr = to_z-of_z {w = w8} (record { sfits = c.struct_told-2-1.given.1.1.1.0.1 }) ∙ ap (λ (m : UplinkMetadata). m.snr) e }
