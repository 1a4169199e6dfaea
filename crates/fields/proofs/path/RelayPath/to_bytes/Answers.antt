-- `fields::path::RelayPath::to_bytes` meets its contract. Assumes nothing.
use Prim.Native.Nat.{ℕ}
use mir.Facts.{to_z-of_z}
use mir.Syntax.{w8, w16}
use mathlib.Core.List.{List, [], ◌∷◌}
use lib.ListN.{get_or}
use Rattle.wire.specs.Number.{be_bytes}
use Rattle.base.specs.Answers.{Writing, bytes}
use Rattle.fields.specs.Signal.{rssi_byte, snr_byte}
use Rattle.fields.specs.Meta.{after_snr, after_rssi}
use Rattle.fields.specs.Path.{path_wire, path_answer, path_bytes}
use Rattle.fields.specs.declared.path.RelayPath.{RelayPath}
use Rattle.fields.specs.declared.signal.SignalByte.{SignalByte}
use mathlib.Core.Path.{◌≡◌, sym, ap, ◌∙◌}
use Rattle.fields.proofs.path.RelayPath.to_bytes.Goals as goal

abbrev with_snr : RelayPath → ℕ → SignalByte → Writing
with_snr p = after_snr (be_bytes 4 p.relay_id) []

abbrev with_rssi : RelayPath → SignalByte → Writing
with_rssi p = after_rssi (be_bytes 4 p.relay_id) [] (snr_byte p.snr)

pub returns-in-Refused : goal.returns-in-Refused
unfolding path_bytes path_wire
returns-in-Refused c = c.refused.ensures ∙ ap path_answer (ap (with_rssi c.args.self) (sym c.in-Refused.is ∙ (let rssi : c.rssi_byte.result ≡ rssi_byte c.args.self.rssi = c.rssi_byte.ensures ∙ ap rssi_byte (to_z-of_z {w = w16} (record { sfits = c.struct_told-1.given.1.0.1 })) in rssi)))

pub returns-in-Refused-snr_byte : goal.returns-in-Refused-snr_byte
unfolding path_bytes path_wire
returns-in-Refused-snr_byte c = let p = c.args.self in
    c.refused-in-Refused-snr_byte.ensures
    ∙ ap path_answer (ap (with_snr p c.in-Byte.rssi) (sym c.in-Refused-snr_byte.is ∙ (let snr : c.snr_byte.result ≡ snr_byte c.args.self.snr = c.snr_byte.ensures ∙ ap snr_byte (to_z-of_z {w = w8} (record { sfits = c.struct_told-in-Byte-1.given.1.1.0.1 })) in snr)) ∙ ap (with_rssi p) (sym c.in-Byte.is ∙ (let rssi : c.rssi_byte.result ≡ rssi_byte c.args.self.rssi = c.rssi_byte.ensures ∙ ap rssi_byte (to_z-of_z {w = w16} (record { sfits = c.struct_told-1.given.1.0.1 })) in rssi)))

pub returns-in-Byte-snr_byte : goal.returns-in-Byte-snr_byte
unfolding path_bytes path_wire be_bytes
returns-in-Byte-snr_byte c = let p = c.args.self in
    let r = c.in-Byte.rssi in
    let s = c.in-Byte-snr_byte.snr in
    ap path_answer (ap (λ (l : List ℕ). bytes (get_or l 0 0 ∷ get_or l 1 0 ∷ get_or l 2 0 ∷ get_or l 3 0 ∷ r ∷ s ∷ [])) c.be32_bytes-r.ensures
    ∙ ap (with_snr p r) (sym c.in-Byte-snr_byte.is ∙ (let snr : c.snr_byte.result ≡ snr_byte c.args.self.snr = c.snr_byte.ensures ∙ ap snr_byte (to_z-of_z {w = w8} (record { sfits = c.struct_told-in-Byte-1.given.1.1.0.1 })) in snr)) ∙ ap (with_rssi p) (sym c.in-Byte.is ∙ (let rssi : c.rssi_byte.result ≡ rssi_byte c.args.self.rssi = c.rssi_byte.ensures ∙ ap rssi_byte (to_z-of_z {w = w16} (record { sfits = c.struct_told-1.given.1.0.1 })) in rssi)))
