-- Uplink metadata in five bytes and downlink metadata in six. Assumes nothing.
use Rattle.std.specs.Prelude.{ℕ, ◌+◌, ◌-◌, ◌*◌, ◌/◌, ◌%◌, List, [], ◌∷◌, ◌++◌, ltb, eqb, get_or}
use Rattle.base.specs.Pick.{pick}
use Rattle.base.specs.Numbers.{uplink_id_large, dr_large, delay_none, tx_power_large, delay_large}
use Rattle.base.specs.Answers.{Writing, bytes, refused, unless_refused, checked_of, bytes_or}
use Rattle.fields.specs.Limits.{uplink_id_most, dr_most, tx_power_most, delay_least, delay_most}
use Rattle.fields.specs.Freq.{hertz_of, freq_wire}
use Rattle.fields.specs.Signal.{rssi_of, snr_of, rssi_byte, snr_byte}
use Rattle.fields.specs.declared.signal.SignalByte.{SignalByte}
use Rattle.fields.specs.declared.signal.SignalByte.TheVariants.{Byte, Refused as NoByte}
use Rattle.fields.specs.declared.meta.UplinkMetadata.{UplinkMetadata}
use Rattle.fields.specs.declared.meta.UplinkBytes.{UplinkBytes}
use Rattle.fields.specs.declared.meta.DownlinkMetadata.{DownlinkMetadata}
use Rattle.fields.specs.declared.meta.DownlinkBytes.{DownlinkBytes}

-- twelve bits of uplink id, four of dr
abbrev pub id_of : ℕ → ℕ → ℕ
id_of a b = a * 16 + b / 16

abbrev pub id_bytes : ℕ → ℕ → List ℕ
id_bytes id dr = (id / 16 % 256) ∷ (id % 16 * 16 + dr) ∷ []

-- the first refusal, or 0
unfoldable pub id_refusal : ℕ → ℕ → ℕ
id_refusal id dr = pick (ltb uplink_id_most id) uplink_id_large (pick (ltb dr_most dr) dr_large 0)

-- ---- uplinks: id and dr, rssi, snr, channel

abbrev pub up_of : List ℕ → UplinkMetadata
up_of b =
    record {
      uplink_id = id_of (get_or b 0 0) (get_or b 1 0);
      dr = get_or b 1 0 % 16;
      rssi = rssi_of (get_or b 2 0);
      snr = (snr_of (get_or b 3 0)).snr;
      channel = get_or b 4 0;
      odd = (snr_of (get_or b 3 0)).odd;
    }

-- without the odd bits, which no writing looks at
abbrev pub even : UplinkMetadata → UplinkMetadata
even m = record { uplink_id = m.uplink_id; dr = m.dr; rssi = m.rssi; snr = m.snr; channel = m.channel; odd = 0 }

-- rssi, snr and what follows them; also of a path entry
abbrev pub after_snr : List ℕ → List ℕ → ℕ → SignalByte → Writing
after_snr before after r (NoByte n) = refused n
after_snr before after r (Byte s) = bytes (before ++ r ∷ s ∷ after)

abbrev pub after_rssi : List ℕ → List ℕ → SignalByte → SignalByte → Writing
after_rssi before after s (NoByte n) = refused n
after_rssi before after s (Byte r) = after_snr before after r s

-- 8 to 13 ascending
unfoldable pub up_wire : UplinkMetadata → Writing
up_wire m =
    unless_refused (id_refusal m.uplink_id m.dr)
    (after_rssi (id_bytes m.uplink_id m.dr) (m.channel ∷ []) (snr_byte m.snr) (rssi_byte m.rssi))

abbrev pub up_answer : Writing → UplinkBytes
up_answer f = record { answer = checked_of f; bytes = bytes_or 5 f }

unfoldable pub up_bytes : UplinkMetadata → UplinkBytes
up_bytes m = up_answer (up_wire m)

-- ---- downlinks: id and dr, three bytes of frequency, four bits of tx_power, four of delay less one

abbrev pub down_of : List ℕ → DownlinkMetadata
down_of b =
    record {
      uplink_id = id_of (get_or b 0 0) (get_or b 1 0);
      dr = get_or b 1 0 % 16;
      frequency = hertz_of (get_or b 2 0) (get_or b 3 0) (get_or b 4 0);
      tx_power = get_or b 5 0 / 16;
      delay = get_or b 5 0 % 16 + 1;
    }

-- 8, 9, 14, 15, 16
unfoldable pub down_refusal : DownlinkMetadata → ℕ
down_refusal m =
    pick (eqb (id_refusal m.uplink_id m.dr) 0)
    (pick (ltb m.delay delay_least) delay_none
    (pick (ltb tx_power_most m.tx_power) tx_power_large (pick (ltb delay_most m.delay) delay_large 0)))
    (id_refusal m.uplink_id m.dr)

abbrev pub after_freq : DownlinkMetadata → Writing → Writing
after_freq m (refused n) = refused n
after_freq m (bytes f) = bytes (id_bytes m.uplink_id m.dr ++ f ++ (m.tx_power * 16 + (m.delay - 1)) ∷ [])

-- then those of the frequency: 17, 18, 38
unfoldable pub down_wire : DownlinkMetadata → Writing
down_wire m = unless_refused (down_refusal m) (after_freq m (freq_wire m.frequency))

abbrev pub down_answer : Writing → DownlinkBytes
down_answer f = record { answer = checked_of f; bytes = bytes_or 6 f }

unfoldable pub down_bytes : DownlinkMetadata → DownlinkBytes
down_bytes m = down_answer (down_wire m)
