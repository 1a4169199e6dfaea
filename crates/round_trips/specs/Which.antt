-- Which frames are read, and which refusal the others get: the shortest frames, and the numbers, each exactly when it is
-- given. Assumes nothing.
use Rattle.std.specs.Prelude.{ℕ, ◌/◌, ◌%◌, List, ltb, eqb, length, get_or}
use Rattle.base.specs.Pick.{pick}
use Rattle.fields.specs.Signal.{even_at}
use Rattle.base.specs.Numbers.{frame_empty, frame_short, not_mesh, body_short, frame_long, frame_most}

-- by the type's code: uplink 14, downlink 15, event and command 13
abbrev pub least_frame : ℕ → ℕ
least_frame n = pick (eqb n 0) 14 (pick (eqb n 1) 15 13)

-- the mesh reader's number, or 0 where the frame is read
unfoldable pub mesh_number : List ℕ → ℕ
mesh_number s =
    pick (eqb (length s) 0) frame_empty
    (pick (ltb frame_most (length s)) frame_long
    (pick (ltb (length s) 5) frame_short
    (pick (eqb (get_or s 0 0 / 32) 7) (pick (ltb (length s) (least_frame (get_or s 0 0 / 8 % 4))) body_short 0) not_mesh)))

-- the packet reader's: as the mesh reader's, but any other top bits are a LoRa frame, so it never gives 3
unfoldable pub packet_number : List ℕ → ℕ
packet_number s = pick (eqb (get_or s 0 0 / 32) 7) (mesh_number s) (pick (eqb (length s) 0) frame_empty (pick (ltb frame_most (length s)) frame_long 0))

-- a frame without an uplink's odd bits: byte 4 of it is the snr byte
unfoldable pub cleared : List ℕ → List ℕ
cleared s = pick (eqb (get_or s 0 0 / 8 % 4) 0) (even_at s 4) s
