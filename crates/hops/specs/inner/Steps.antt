-- The hop edit as the code takes it: the bytes that are rewritten. Over any block cipher E.
-- Assumes nothing.
use Rattle.std.specs.Prelude.{ℕ, ◌-◌, Bool, true, false, List, ltb, length, set, take}
use Rattle.base.specs.Pick.{pick}
use Rattle.wire.specs.Number.{be_bytes}
use Rattle.wire.specs.Lay.{put}
use Rattle.fields.specs.declared.header.PayloadType.{PayloadType}
use Rattle.fields.specs.declared.header.PayloadType.TheVariants.{Uplink, Downlink, Event, Command}
use Rattle.fields.specs.Signal.{even_at}
use Rattle.mic.specs.Mic.{mic_of}

abbrev pub is_uplink : PayloadType → Bool
is_uplink Uplink = true
is_uplink Downlink = false
is_uplink Event = false
is_uplink Command = false

-- where the MIC begins
abbrev pub mic_at : List ℕ → ℕ
mic_at s = length s - 4

-- header byte b, and an uplink's odd bits as 0
unfoldable pub renewed : ℕ → Bool → List ℕ → List ℕ
renewed b up s = pick up (even_at (set s 0 b) 4) (set s 0 b)

-- the MIC over all before a place, laid there
unfoldable pub mic_laid : (List ℕ → List ℕ) → ℕ → List ℕ → List ℕ
mic_laid E end s = put s end (be_bytes 4 (mic_of E (take end s)))

-- both, where the MIC stands at a place behind a header byte
unfoldable pub rewritten : (List ℕ → List ℕ) → ℕ → Bool → ℕ → List ℕ → List ℕ
rewritten E b up end s = pick (ltb 0 end) (mic_laid E end (renewed b up s)) s
