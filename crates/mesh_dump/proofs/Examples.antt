-- The example of 13.11 of the rules, its whole input and its whole output, of the definitions; and inputs at the edges. Assumes nothing.
use mathlib.Core.Path.{◌≡◌, refl}
use mathlib.Core.List.{[]}
use Rattle.base.specs.Lists.{joined}
use Rattle.wire.specs.Number.{be_more, be_of, be_bytes}
use Rattle.wire.specs.Hex.{nibble_of, digit_of, pair_of, all_hex, unhex, hex_text}
use Rattle.fields.specs.Signal.{snr_of}
use Rattle.fields.specs.Header.{type_read, header_of}
use Rattle.links.specs.Read.{uplink_at}
use Rattle.events.specs.Read.{stamped_at, event_at}
use Rattle.packets.specs.Read.{payload_at, mesh_of, packet_of}
use Rattle.dump.specs.Ascii.{ascii}
use Rattle.dump.specs.Dump.{last_digits, decimal, label_of, odd_text, line_of, mesh_text, frame_text, bad_hex, line_text}
use Rattle.mesh_dump.specs.Output.{lines_from, line_out, dump_of, printed}

pub example :
    printed (ascii "e012355007020a0b0c0d11223344\nf20000003c0a0b0c0d01020304\n40\ne0\n")
    ≡ ascii "[Uplink hop_count: 1, uplink_id: 291, relay_id: 0a0b0c0d, mic: 11223344]\n[Event hop_count: 3, timestamp: 60, relay_id: 0a0b0c0d]\nlora 1\nrefused 2\n"
unfolding joined be_more be_of be_bytes nibble_of digit_of pair_of all_hex unhex hex_text type_read snr_of header_of uplink_at stamped_at event_at payload_at mesh_of packet_of last_digits decimal label_of odd_text line_of mesh_text frame_text bad_hex line_text lines_from line_out dump_of printed
example = refl

-- no input, a lone newline, a last line without its newline, blank lines between
pub edges :
    (printed [] ≡ [])
    × (printed (ascii "\n") ≡ ascii "refused 1\n")
    × (printed (ascii "40") ≡ ascii "lora 1\n")
    × (printed (ascii "40\n") ≡ ascii "lora 1\n")
    × (printed (ascii "\n\n40\n\ne0") ≡ ascii "refused 1\nrefused 1\nlora 1\nrefused 1\nrefused 2\n")
    × (printed (ascii "40\r\n4") ≡ ascii "refused 30\nrefused 30\n")
unfolding joined be_more be_of be_bytes nibble_of digit_of pair_of all_hex unhex hex_text type_read header_of mesh_of packet_of last_digits decimal frame_text bad_hex line_text lines_from line_out dump_of printed
edges = (refl, refl, refl, refl, refl, refl)
