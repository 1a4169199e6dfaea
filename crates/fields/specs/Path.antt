-- An entry of a heartbeat's path in six bytes: relay id, rssi, snr. Assumes nothing.
use Rattle.std.specs.Prelude.{ℕ, suc, ◌%◌, Bool, true, ◌&&◌, List, [], ◌∷◌, eqb, get_or}
use Rattle.base.specs.Pick.{pick}
use Rattle.base.specs.Numbers.{entry_bytes}
use Rattle.base.specs.Answers.{Writing, frame_number, checked_of, bytes_or}
use Rattle.wire.specs.Number.{be_of, be_bytes}
use Rattle.fields.specs.Signal.{rssi_of, even_byte, snr_of, rssi_byte, snr_byte}
use Rattle.fields.specs.Meta.{after_rssi}
use Rattle.fields.specs.declared.path.RelayPath.{RelayPath}
use Rattle.fields.specs.declared.path.PathBytes.{PathBytes}

abbrev pub path_of : List ℕ → RelayPath
path_of b =
    record {
      relay_id = be_of (get_or b 0 0 ∷ get_or b 1 0 ∷ get_or b 2 0 ∷ get_or b 3 0 ∷ []);
      rssi = rssi_of (get_or b 4 0);
      snr = (snr_of (get_or b 5 0)).snr;
      odd = (snr_of (get_or b 5 0)).odd;
    }

-- without the odd bits, which no writing looks at
abbrev pub even_entry : RelayPath → RelayPath
even_entry p = record { relay_id = p.relay_id; rssi = p.rssi; snr = p.snr; odd = 0 }

-- 10 to 13
unfoldable pub path_wire : RelayPath → Writing
path_wire p = after_rssi (be_bytes 4 p.relay_id) [] (snr_byte p.snr) (rssi_byte p.rssi)

abbrev pub path_answer : Writing → PathBytes
path_answer f = record { answer = checked_of f; bytes = bytes_or entry_bytes f }

unfoldable pub path_bytes : RelayPath → PathBytes
path_bytes p = path_answer (path_wire p)

-- byte i of entries one behind the other, as it is written: the odd bits of each sixth byte are 0
abbrev pub entry_byte : ℕ → ℕ → ℕ
entry_byte i b = pick (eqb (i % entry_bytes) 5) (even_byte b) b

-- whether they are 0 as they stand: of one byte, of the bytes from place i on, of whole entries
abbrev pub is_even : ℕ → ℕ → Bool
is_even i b = pick (eqb (i % entry_bytes) 5) (eqb (snr_of b).odd 0) true

unfoldable pub even_from : ℕ → List ℕ → Bool
even_from i [] = true
even_from i (b ∷ v) = is_even i b && even_from (suc i) v

abbrev pub all_even : List ℕ → Bool
all_even v = even_from 0 v

-- the refusal's number, 0 for none; and the six bytes
unfoldable pub bad_entry : RelayPath → ℕ
bad_entry p = frame_number (path_wire p)

unfoldable pub six_of : RelayPath → List ℕ
six_of p = bytes_or entry_bytes (path_wire p)
