-- `numbers::back::mesh_of` meets its contract. Assumes nothing.
use mir.Facts.{to_z-of_z}
use mathlib.Core.Path.{sym, ap, ◌∙◌}
use Rattle.numbers.specs.Numbers.{typed_by, kind_by}
use Rattle.numbers.proofs.Laws.{mesh_wide, mesh_strange, mesh_known, mesh_made}
use Rattle.numbers.proofs.back.mesh_of.Goals as goal

pub returns-then-too_wide : goal.returns-then-too_wide
returns-then-too_wide c =
    sym (mesh_wide _ _ _ _ c.too_wide.ensures c.if-too_wide.true)

pub returns-then-strange_content : goal.returns-then-strange_content
returns-then-strange_content c =
    sym (mesh_strange _ _ _ _ c.too_wide.ensures c.if-too_wide.false _ c.strange_content.ensures c.if-strange_content.true)

pub returns-in-Refused : goal.returns-in-Refused
returns-in-Refused c =
    let ns = c.args.numbers.now in
    ap (kind_by ns _ _) (sym c.in-Refused.is ∙ c.to_type.ensures) ∙ sym (mesh_known ns _ _ _ c.too_wide.ensures c.if-too_wide.false _ c.strange_content.ensures c.if-strange_content.false)

pub returns-in-Refused-to_type : goal.returns-in-Refused-to_type
returns-in-Refused-to_type c =
    let ns = c.args.numbers.now in
    ap (typed_by ns _ _ c.in-Kind.kind) (sym c.in-Refused-to_type.is ∙ c.to_type-in-Kind.ensures) ∙ ap (kind_by ns _ _) (sym c.in-Kind.is ∙ c.to_type.ensures) ∙ sym (mesh_known ns _ _ _ c.too_wide.ensures c.if-too_wide.false _ c.strange_content.ensures c.if-strange_content.false)

pub returns-in-Kind-to_type : goal.returns-in-Kind-to_type
returns-in-Kind-to_type c =
    mesh_made c.args.numbers.now c.args.rssi c.args.snr _ c.too_wide.ensures c.if-too_wide.false _ c.strange_content.ensures c.if-strange_content.false c.in-Kind.kind c.in-Kind-to_type.payload_type _ _ _ (sym c.to_type.ensures ∙ c.in-Kind.is) (sym c.to_type-in-Kind.ensures ∙ c.in-Kind-to_type.is) c.to_u8.ensures c.to_u32.ensures (rw (to_z-of_z c.ranges.rssi, to_z-of_z c.ranges.snr) at c.payload_of.ensures)
