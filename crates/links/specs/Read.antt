-- Bodies read. `at` is where the body starts in its frame, so that a run is a place in the frame. Assumes nothing.
use Rattle.std.specs.Prelude.{ℕ, ◌+◌, ◌-◌, List, [], ◌∷◌, ltb, length, get_or}
use Rattle.base.specs.Pick.{pick}
use Rattle.base.specs.Numbers.{frame_long, body_short, body_most}
use Rattle.base.specs.Answers.{Answer, value, number}
use Rattle.wire.specs.Number.{be_of}
use Rattle.fields.specs.Meta.{up_of, even, down_of}
use Rattle.links.specs.declared.uplink.UplinkPayload.{UplinkPayload}
use Rattle.links.specs.declared.uplink.UplinkRead.{UplinkRead}
use Rattle.links.specs.declared.uplink.UplinkRead.TheVariants.{Payload as AnUplink, Refused as NoUplink}
use Rattle.links.specs.declared.downlink.DownlinkPayload.{DownlinkPayload}
use Rattle.links.specs.declared.downlink.DownlinkRead.{DownlinkRead}
use Rattle.links.specs.declared.downlink.DownlinkRead.TheVariants.{Payload as ADownlink, Refused as NoDownlink}

-- four bytes of b from i on
abbrev pub four_at : List ℕ → ℕ → ℕ
four_at b i = be_of (get_or b i 0 ∷ get_or b (i + 1) 0 ∷ get_or b (i + 2) 0 ∷ get_or b (i + 3) 0 ∷ [])

-- 5 where the frame around the body would be over 8,192 bytes, then 4
unfoldable pub uplink_at : ℕ → List ℕ → UplinkRead
uplink_at at b =
    pick (ltb body_most (length b)) (NoUplink frame_long)
    (pick (ltb (length b) 9) (NoUplink body_short)
    (AnUplink (record {
      metadata = up_of (get_or b 0 0 ∷ get_or b 1 0 ∷ get_or b 2 0 ∷ get_or b 3 0 ∷ get_or b 4 0 ∷ []);
      relay_id = four_at b 5;
      phy_payload = record { start = 9 + at; len = length b - 9 };
    })))

-- without the odd bits
abbrev pub even_uplink : UplinkPayload → UplinkPayload
even_uplink u = record { metadata = even u.metadata; relay_id = u.relay_id; phy_payload = u.phy_payload }

unfoldable pub downlink_at : ℕ → List ℕ → DownlinkRead
downlink_at at b =
    pick (ltb body_most (length b)) (NoDownlink frame_long)
    (pick (ltb (length b) 10) (NoDownlink body_short)
    (ADownlink (record {
      metadata = down_of (get_or b 0 0 ∷ get_or b 1 0 ∷ get_or b 2 0 ∷ get_or b 3 0 ∷ get_or b 4 0 ∷ get_or b 5 0 ∷ []);
      relay_id = four_at b 6;
      phy_payload = record { start = 10 + at; len = length b - 10 };
    })))

-- the refusal's number, or the value
abbrev pub uplink_says : UplinkRead → Answer UplinkPayload
uplink_says (AnUplink p) = value p
uplink_says (NoUplink n) = number n

abbrev pub downlink_says : DownlinkRead → Answer DownlinkPayload
downlink_says (ADownlink p) = value p
downlink_says (NoDownlink n) = number n
