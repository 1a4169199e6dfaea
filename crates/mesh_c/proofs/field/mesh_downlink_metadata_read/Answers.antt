-- `mesh_c::field::mesh_downlink_metadata_read` meets its contract. Assumes nothing.
use mathlib.Core.Path.{refl, ap, ap₂, ◌∙◌}
use mathlib.Core.List.{◌∷◌}
use Rattle.mesh_c.specs.Face.{down_list}
use Rattle.mesh_c.proofs.field.mesh_downlink_metadata_read.Goals as goal

pub returns : goal.returns
returns c =
    ap₂ ◌∷◌ c.from_u16.ensures
    (ap₂ ◌∷◌ c.from_u8.ensures
    (ap₂ ◌∷◌ c.from_u32.ensures
    (ap₂ ◌∷◌ c.from_u8-2.ensures
    (ap₂ ◌∷◌ c.from_u8-3.ensures refl))))
    ∙ ap down_list c.from_bytes-m.ensures
