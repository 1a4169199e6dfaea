-- `fields::meta::UplinkMetadata::to_bytes` meets its contract. Assumes nothing.
use Prim.Native.Nat.{ℕ}
use mir.Facts.{to_z-of_z}
use mir.Syntax.{w8, w16}
use mathlib.Core.List.{[], ◌∷◌}
use Rattle.fields.specs.Signal.{rssi_byte, snr_byte}
use Rattle.fields.specs.Meta.{id_bytes, id_refusal, after_snr, after_rssi, up_wire, up_answer, up_bytes}
use Rattle.fields.specs.declared.meta.UplinkMetadata.{UplinkMetadata}
use Rattle.fields.specs.declared.signal.SignalByte.{SignalByte}
use Rattle.base.specs.Answers.{Writing}
use Rattle.base.proofs.Answers.{is_refused, not_refused}
use Rattle.fields.proofs.Laws.Meta.{id_fits}
use native.Mathlib.Omega.{arith}
use mathlib.Core.Path.{◌≡◌, sym, ap, ◌∙◌}
use Rattle.fields.proofs.meta.UplinkMetadata.to_bytes.Goals as goal

abbrev with_snr : UplinkMetadata → ℕ → SignalByte → Writing
with_snr m = after_snr (id_bytes m.uplink_id m.dr) (m.channel ∷ [])

abbrev with_rssi : UplinkMetadata → SignalByte → Writing
with_rssi m = after_rssi (id_bytes m.uplink_id m.dr) (m.channel ∷ []) (snr_byte m.snr)

pub returns-then-bad-ne0 : goal.returns-then-bad-ne0
unfolding up_bytes up_wire
returns-then-bad-ne0 c = c.refused.ensures ∙ ap up_answer (is_refused _ _ _ c.id_refusal-bad.ensures c.if-bad-ne0.true)

pub overflow_add-result : goal.overflow_add-result
overflow_add-result c = let f = id_fits _ _ (let none : id_refusal c.args.self.uplink_id c.args.self.dr ≡ 0 = sym c.id_refusal-bad.ensures ∙ c.if-bad-ne0.false in none) in omega arith

pub returns-in-Refused : goal.returns-in-Refused
unfolding up_bytes up_wire
returns-in-Refused c = let m = c.args.self in
    c.refused-in-Refused.ensures ∙ ap up_answer (ap (with_rssi m) (sym c.in-Refused.is ∙ (let rssi : c.rssi_byte.result ≡ rssi_byte c.args.self.rssi = c.rssi_byte.ensures ∙ ap rssi_byte (to_z-of_z {w = w16} (record { sfits = c.struct_told-1.given.1.1.0.1 })) in rssi)) ∙ not_refused _ _ (let none : id_refusal c.args.self.uplink_id c.args.self.dr ≡ 0 = sym c.id_refusal-bad.ensures ∙ c.if-bad-ne0.false in none))

pub returns-in-Refused-snr_byte : goal.returns-in-Refused-snr_byte
unfolding up_bytes up_wire
returns-in-Refused-snr_byte c = let m = c.args.self in
    c.refused-in-Refused-snr_byte.ensures
    ∙ ap up_answer (ap (with_snr m c.in-Byte.rssi) (sym c.in-Refused-snr_byte.is ∙ (let snr : c.snr_byte.result ≡ snr_byte c.args.self.snr = c.snr_byte.ensures ∙ ap snr_byte (to_z-of_z {w = w8} (record { sfits = c.struct_told-in-Byte-1.given.1.1.1.0.1 })) in snr))
    ∙ ap (with_rssi m) (sym c.in-Byte.is ∙ (let rssi : c.rssi_byte.result ≡ rssi_byte c.args.self.rssi = c.rssi_byte.ensures ∙ ap rssi_byte (to_z-of_z {w = w16} (record { sfits = c.struct_told-1.given.1.1.0.1 })) in rssi)) ∙ not_refused _ _ (let none : id_refusal c.args.self.uplink_id c.args.self.dr ≡ 0 = sym c.id_refusal-bad.ensures ∙ c.if-bad-ne0.false in none))

pub returns-in-Byte-snr_byte : goal.returns-in-Byte-snr_byte
unfolding up_bytes up_wire
returns-in-Byte-snr_byte c = let m = c.args.self in
    ap up_answer (ap (with_snr m c.in-Byte.rssi) (sym c.in-Byte-snr_byte.is ∙ (let snr : c.snr_byte.result ≡ snr_byte c.args.self.snr = c.snr_byte.ensures ∙ ap snr_byte (to_z-of_z {w = w8} (record { sfits = c.struct_told-in-Byte-1.given.1.1.1.0.1 })) in snr))
    ∙ ap (with_rssi m) (sym c.in-Byte.is ∙ (let rssi : c.rssi_byte.result ≡ rssi_byte c.args.self.rssi = c.rssi_byte.ensures ∙ ap rssi_byte (to_z-of_z {w = w16} (record { sfits = c.struct_told-1.given.1.1.0.1 })) in rssi)) ∙ not_refused _ _ (let none : id_refusal c.args.self.uplink_id c.args.self.dr ≡ 0 = sym c.id_refusal-bad.ensures ∙ c.if-bad-ne0.false in none))
