-- Bodies written, and the frame around one. Each is a `Writing`: the bytes, or the first refusal in the order 45, the fields, 27, 5; 21 comes
-- after them, with the lent output. Assumes nothing.
use Rattle.std.specs.Prelude.{ℕ, Bool, List, [], ◌∷◌, ◌++◌, ltb, length}
use Rattle.base.specs.Pick.{pick}
use Rattle.base.specs.Numbers.{frame_long, mic_missing, body_most, message_most}
use Rattle.base.specs.Answers.{Writing, bytes, refused, unless_refused}
use Rattle.wire.specs.Number.{be_bytes}
use Rattle.fields.specs.Meta.{up_wire, down_wire}
use Rattle.wire.specs.Run.{run_refusal, run_bytes}
use Rattle.links.specs.declared.uplink.UplinkPayload.{UplinkPayload}
use Rattle.links.specs.declared.downlink.DownlinkPayload.{DownlinkPayload}
use Rattle.wire.specs.declared.run.Run.{Run}

-- what is written, with more behind it
abbrev pub followed : Writing → List ℕ → Writing
followed (refused n) v = refused n
followed (bytes w) v = bytes (w ++ v)

-- with a head before it, and with a byte
abbrev pub headed_by : List ℕ → Writing → Writing
headed_by h (refused n) = refused n
headed_by h (bytes v) = bytes (h ++ v)

abbrev pub prefixed : ℕ → Writing → Writing
prefixed b f = headed_by (b ∷ []) f

-- a body, of which header byte and MIC would make a frame of five bytes more
unfoldable pub limited : List ℕ → Writing
limited w = pick (ltb body_most (length w)) (refused frame_long) (bytes w)

abbrev pub limited_of : Writing → Writing
limited_of (refused n) = refused n
limited_of (bytes w) = limited w

-- header byte and body, with the MIC behind them
unfoldable pub with_mic : Bool → ℕ → Writing → Writing
with_mic has mic (refused n) = refused n
with_mic has mic (bytes w) = pick has (pick (ltb message_most (length w)) (refused frame_long) (bytes (w ++ be_bytes 4 mic))) (refused mic_missing)

-- a head, and a run of s behind it
abbrev pub with_run : List ℕ → Run → Writing → Writing
with_run s r f = unless_refused (run_refusal (length s) r) (followed f (run_bytes s r))

unfoldable pub uplink_head : UplinkPayload → Writing
uplink_head p = followed (up_wire p.metadata) (be_bytes 4 p.relay_id)

unfoldable pub uplink_wire : List ℕ → UplinkPayload → Writing
uplink_wire s p = with_run s p.phy_payload (uplink_head p)

unfoldable pub downlink_head : DownlinkPayload → Writing
downlink_head p = followed (down_wire p.metadata) (be_bytes 4 p.relay_id)

unfoldable pub downlink_wire : List ℕ → DownlinkPayload → Writing
downlink_wire s p = with_run s p.phy_payload (downlink_head p)
