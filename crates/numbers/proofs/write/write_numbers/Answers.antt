-- `numbers::write::write_numbers` meets its contract. Assumes nothing.
use mir.Facts.{to_z-of_z}
use lib.ListN.{length}
use mathlib.Core.Path.{sym, ap, ◌∙◌}
use Rattle.base.proofs.Answers.{out_length}
use Rattle.fields.specs.declared.header.PayloadType.TheVariants.{Uplink}
use Rattle.fields.specs.declared.header.TypeRead.{TypeRead}
use Rattle.contents.specs.Content.{lent}
use Rattle.links.proofs.Steps.{same_frame}
use Rattle.packets.specs.Read.{of_mesh}
use Rattle.numbers.specs.Numbers.{typed_by}
use Rattle.numbers.proofs.Laws.{packet_wide, uplink_mesh, numbers_refused, uplink_no_byte, uplink_frame}
use Rattle.numbers.proofs.write.write_numbers.Goals as goal

pub shape_of-out-then-numbers : goal.shape_of-out-then-numbers
shape_of-out-then-numbers c =
    ap length c.write_any.ensures.out ∙ out_length _ _

pub returns-then-numbers : goal.returns-then-numbers
returns-then-numbers c =
    record {
      answer = rw (to_z-of_z c.ranges.rssi, to_z-of_z c.ranges.snr, c.of-lent.ensures) at c.write_any.ensures.answer;
      out = rw (to_z-of_z c.ranges.rssi, to_z-of_z c.ranges.snr, c.of-lent.ensures) at c.write_any.ensures.out;
    }

pub returns-then-too_wide : goal.returns-then-too_wide
returns-then-too_wide c =
    (let both = numbers_refused _ _ _ _ _ _ (packet_wide _ _ _ _ c.too_wide.ensures c.if-too_wide.true) in record { answer = both.0; out = both.1 })

pub returns-in-Refused : goal.returns-in-Refused
returns-in-Refused c =
    let ns = c.args.numbers.now in
    (let both = numbers_refused _ ns _ _ _ _ (uplink_mesh ns c.args.rssi c.args.snr _ c.too_wide.ensures c.if-too_wide.false c.if-numbers.false ∙ ap (λ (t : TypeRead). of_mesh (typed_by ns c.args.rssi c.args.snr Uplink t)) (sym c.to_type.ensures ∙ c.in-Refused.is)) in record { answer = both.0; out = both.1 })

pub returns-in-Refused-to_byte : goal.returns-in-Refused-to_byte
returns-in-Refused-to_byte c =
    let a = c.args in
    let ns = a.numbers.now in
    let e = uplink_mesh ns c.args.rssi c.args.snr _ c.too_wide.ensures c.if-too_wide.false c.if-numbers.false ∙ ap (λ (t : TypeRead). of_mesh (typed_by ns c.args.rssi c.args.snr Uplink t)) (sym c.to_type.ensures ∙ c.in-Kind.is) in
    (let both = uplink_no_byte (lent a.frame.now a.work.now a.kinds.now a.spans.now a.ids.now a.rssis.now a.snrs.now) ns _ _ _ e _ c.to_u8.ensures _ _ (sym c.in-Refused-to_byte.is ∙ c.to_byte.ensures) in record { answer = both.0; out = both.1 })

pub shape_of-out : goal.shape_of-out
shape_of-out c =
    ap length c.write_in.ensures.bytes ∙ out_length _ _

pub returns-in-Byte : goal.returns-in-Byte
returns-in-Byte c =
    let a = c.args in
    let ns = a.numbers.now in
    let e = uplink_mesh ns c.args.rssi c.args.snr _ c.too_wide.ensures c.if-too_wide.false c.if-numbers.false ∙ ap (λ (t : TypeRead). of_mesh (typed_by ns c.args.rssi c.args.snr Uplink t)) (sym c.to_type.ensures ∙ c.in-Kind.is) in
    (let both = same_frame _ _ _ _ _ (uplink_frame (lent a.frame.now a.work.now a.kinds.now a.spans.now a.ids.now a.rssis.now a.snrs.now) ns _ _ _ e _ c.to_u8.ensures _ _ _ (sym c.in-Byte.is ∙ c.to_byte.ensures) (rw (to_z-of_z c.ranges.rssi, to_z-of_z c.ranges.snr) at c.uplink_of.ensures) c.to_u32.ensures) (c.write_in.ensures.answer, c.write_in.ensures.bytes) in record { answer = both.0; out = both.1 })
