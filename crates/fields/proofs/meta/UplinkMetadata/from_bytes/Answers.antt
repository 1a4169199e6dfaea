-- `fields::meta::UplinkMetadata::from_bytes` meets its contract. Assumes nothing.
use mir.Facts.{to_z-of_z}
use mir.Syntax.{w8, w16}
use Rattle.fields.proofs.meta.UplinkMetadata.from_bytes.Goals as goal

pub returns : goal.returns
returns c = rw (to_z-of_z {w = w16} (record { sfits = c.rssi_of.type_inv }), to_z-of_z {w = w8} (record { sfits = c.struct_told-1.given.0.1 })) (cc)
