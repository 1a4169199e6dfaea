-- The example of 13.11 of the rules, its four lines and what is printed for each, of the definitions, as one statement; and more lines. Assumes
-- nothing.
use mathlib.Core.Path.{◌≡◌, refl}
use Rattle.wire.specs.Number.{be_more, be_of, be_bytes}
use Rattle.wire.specs.Hex.{nibble_of, digit_of, pair_of, all_hex, unhex, hex_text}
use Rattle.fields.specs.Signal.{snr_of}
use Rattle.fields.specs.Header.{type_read, header_of}
use Rattle.links.specs.Read.{uplink_at, downlink_at}
use Rattle.events.specs.Read.{stamped_at, event_at, command_at}
use Rattle.packets.specs.Read.{payload_at, mesh_of, packet_of}
use Rattle.dump.specs.Ascii.{ascii}
use Rattle.dump.specs.Dump.{last_digits, decimal, label_of, odd_text, line_of, mesh_text, frame_text, bad_hex, line_text}

pub four_lines :
    (line_text (ascii "e012355007020a0b0c0d11223344") ≡ ascii "[Uplink hop_count: 1, uplink_id: 291, relay_id: 0a0b0c0d, mic: 11223344]")
    × (line_text (ascii "f20000003c0a0b0c0d01020304") ≡ ascii "[Event hop_count: 3, timestamp: 60, relay_id: 0a0b0c0d]")
    × (line_text (ascii "40") ≡ ascii "lora 1")
    × (line_text (ascii "e0") ≡ ascii "refused 2")
unfolding be_more be_of be_bytes nibble_of digit_of pair_of all_hex unhex hex_text type_read snr_of header_of uplink_at stamped_at event_at payload_at mesh_of packet_of last_digits decimal label_of odd_text line_of mesh_text frame_text bad_hex line_text
four_lines = (refl, refl, refl, refl)

-- the first of them with odd bits
pub odd_lines :
    (line_text (ascii "e012355047020a0b0c0d11223344") ≡ ascii "[Uplink hop_count: 1, uplink_id: 291, relay_id: 0a0b0c0d, mic: 11223344 odd: 1]")
    × (line_text (ascii "e012355087020a0b0c0d11223344") ≡ ascii "[Uplink hop_count: 1, uplink_id: 291, relay_id: 0a0b0c0d, mic: 11223344 odd: 2]")
    × (line_text (ascii "e0123550c7020a0b0c0d11223344") ≡ ascii "[Uplink hop_count: 1, uplink_id: 291, relay_id: 0a0b0c0d, mic: 11223344 odd: 3]")
unfolding be_more be_of be_bytes nibble_of digit_of pair_of all_hex unhex hex_text type_read snr_of header_of uplink_at payload_at mesh_of packet_of last_digits decimal label_of odd_text line_of mesh_text frame_text bad_hex line_text
odd_lines = (refl, refl, refl)

-- a blank line, an odd count of digits, bytes that are no digit, short frames, upper case, and the ends of each number
pub more_lines :
    (line_text (ascii "") ≡ ascii "refused 1")
    × (line_text (ascii "4") ≡ ascii "refused 30")
    × (line_text (ascii "4g") ≡ ascii "refused 30")
    × (line_text (ascii "40\r") ≡ ascii "refused 30")
    × (line_text (ascii "e01235") ≡ ascii "refused 2")
    × (line_text (ascii "e01235500702") ≡ ascii "refused 4")
    × (line_text (ascii "E712355007020A0B0C0D11223344") ≡ ascii "[Uplink hop_count: 8, uplink_id: 291, relay_id: 0a0b0c0d, mic: 11223344]")
    × (line_text (ascii "e8fff08476280f0a0b0c0d00000001") ≡ ascii "[Downlink hop_count: 1, uplink_id: 4095, relay_id: 0a0b0c0d, mic: 00000001]")
    × (line_text (ascii "ffffffffff0a0b0c0d01020304") ≡ ascii "[Command hop_count: 8, timestamp: 4294967295, relay_id: 0a0b0c0d]")
    × (line_text (ascii "f8000000000a0b0c0d01020304") ≡ ascii "[Command hop_count: 1, timestamp: 0, relay_id: 0a0b0c0d]")
unfolding be_more be_of be_bytes nibble_of digit_of pair_of all_hex unhex hex_text type_read snr_of header_of uplink_at downlink_at stamped_at event_at command_at payload_at mesh_of packet_of last_digits decimal label_of odd_text line_of mesh_text frame_text bad_hex line_text
more_lines = (refl, refl, refl, refl, refl, refl, refl, refl, refl, refl)
