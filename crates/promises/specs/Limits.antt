-- A packet whose fields lie between their least and their largest values, and for each type the frame of all the least values and that of all
-- the largest. Assumes nothing.
use Rattle.std.specs.Prelude.{ℕ, ◌≤◌, true, false, ◌≡◌, List, ◌∷◌, ℤ, replicate}
use Rattle.std.specs.Int.Signed.{lt_z}
use Rattle.fields.specs.Limits.{hops_least, hops_most, uplink_id_least, uplink_id_most, dr_least, dr_most, rssi_least, rssi_most, snr_least, snr_most, odd_least, odd_most, channel_least, channel_most, relay_id_least, relay_id_most, hertz_least, hertz_most, tx_power_least, tx_power_most, delay_least, delay_most, timestamp_least, timestamp_most, mic_least, mic_most}
use Rattle.fields.specs.Header.{code_of, type_least, type_most}
use Rattle.fields.specs.declared.header.PayloadType.{PayloadType}
use Rattle.fields.specs.declared.header.PayloadType.TheVariants as type
use Rattle.fields.specs.declared.path.RelayPath.{RelayPath}
use Rattle.contents.specs.declared.content.Content.TheVariants.{Empty}
use Rattle.links.specs.declared.uplink.UplinkPayload.{UplinkPayload}
use Rattle.links.specs.declared.downlink.DownlinkPayload.{DownlinkPayload}
use Rattle.packets.specs.declared.mesh.Payload.{Payload}
use Rattle.packets.specs.declared.mesh.Payload.TheVariants.{Uplink, Downlink, Event, Command}
use Rattle.packets.specs.declared.mesh.MeshPacket.{MeshPacket}

abbrev pub Between : ℕ → ℕ → ℕ → Type 0
Between least most n = (least ≤ n) × (n ≤ most)

abbrev pub BetweenZ : ℤ → ℤ → ℤ → Type 0
BetweenZ least most x = (lt_z x least ≡ false) × (lt_z most x ≡ false)

-- ---- every field between its limits

pub record UplinkWithin (u : UplinkPayload) : Type 0 where
  pub id : Between uplink_id_least uplink_id_most u.metadata.uplink_id
  pub rate : Between dr_least dr_most u.metadata.dr
  pub strength : BetweenZ rssi_least rssi_most u.metadata.rssi
  pub ratio : BetweenZ snr_least snr_most u.metadata.snr
  pub odd : Between odd_least odd_most u.metadata.odd
  pub number : Between channel_least channel_most u.metadata.channel
  pub relay : Between relay_id_least relay_id_most u.relay_id

pub record DownlinkWithin (u : DownlinkPayload) : Type 0 where
  pub id : Between uplink_id_least uplink_id_most u.metadata.uplink_id
  pub rate : Between dr_least dr_most u.metadata.dr
  pub hertz : Between hertz_least hertz_most u.metadata.frequency
  pub power : Between tx_power_least tx_power_most u.metadata.tx_power
  pub wait : Between delay_least delay_most u.metadata.delay
  pub relay : Between relay_id_least relay_id_most u.relay_id

-- an event's or a command's timestamp and relay id
pub record StampWithin (time relay : ℕ) : Type 0 where
  pub stamp : Between timestamp_least timestamp_most time
  pub by : Between relay_id_least relay_id_most relay

pub record PathWithin (r : RelayPath) : Type 0 where
  pub relay : Between relay_id_least relay_id_most r.relay_id
  pub strength : BetweenZ rssi_least rssi_most r.rssi
  pub ratio : BetweenZ snr_least snr_most r.snr
  pub odd : Between odd_least odd_most r.odd

abbrev pub PayloadWithin : Payload → Type 0
PayloadWithin (Uplink u) = UplinkWithin u
PayloadWithin (Downlink u) = DownlinkWithin u
PayloadWithin (Event u) = StampWithin u.timestamp u.relay_id
PayloadWithin (Command u) = StampWithin u.timestamp u.relay_id

pub record PacketWithin (p : MeshPacket) : Type 0 where
  pub code : Between type_least type_most (code_of p.mhdr.payload_type)
  pub hops : Between hops_least hops_most p.mhdr.hop_count
  pub fields : PayloadWithin p.payload
  pub tag : Between mic_least mic_most p.mic

-- ---- the two ends: of each type the shortest frame, and what is read of it

abbrev pub least_bytes : PayloadType → List ℕ
least_bytes type.Uplink = 224 ∷ 0 ∷ 0 ∷ 255 ∷ 32 ∷ replicate 9 0
least_bytes type.Downlink = 232 ∷ replicate 14 0
least_bytes type.Event = 240 ∷ replicate 12 0
least_bytes type.Command = 248 ∷ replicate 12 0

abbrev pub most_bytes : PayloadType → List ℕ
most_bytes type.Uplink = 231 ∷ 255 ∷ 255 ∷ 0 ∷ 223 ∷ replicate 9 255
most_bytes type.Downlink = 239 ∷ replicate 14 255
most_bytes type.Event = 247 ∷ replicate 12 255
most_bytes type.Command = 255 ∷ replicate 12 255

abbrev pub least_payload : PayloadType → Payload
least_payload type.Uplink =
    Uplink (record {
      metadata = record { uplink_id = uplink_id_least; dr = dr_least; rssi = rssi_least; snr = snr_least; channel = channel_least; odd = odd_least };
      relay_id = relay_id_least;
      phy_payload = record { start = 10; len = 0 };
    })
least_payload type.Downlink =
    Downlink (record {
      metadata = record { uplink_id = uplink_id_least; dr = dr_least; frequency = hertz_least; tx_power = tx_power_least; delay = delay_least };
      relay_id = relay_id_least;
      phy_payload = record { start = 11; len = 0 };
    })
least_payload type.Event = Event (record { timestamp = timestamp_least; relay_id = relay_id_least; events = Empty })
least_payload type.Command = Command (record { timestamp = timestamp_least; relay_id = relay_id_least; commands = Empty })

abbrev pub most_payload : PayloadType → Payload
most_payload type.Uplink =
    Uplink (record {
      metadata = record { uplink_id = uplink_id_most; dr = dr_most; rssi = rssi_most; snr = snr_most; channel = channel_most; odd = odd_most };
      relay_id = relay_id_most;
      phy_payload = record { start = 10; len = 0 };
    })
most_payload type.Downlink =
    Downlink (record {
      metadata = record { uplink_id = uplink_id_most; dr = dr_most; frequency = hertz_most; tx_power = tx_power_most; delay = delay_most };
      relay_id = relay_id_most;
      phy_payload = record { start = 11; len = 0 };
    })
most_payload type.Event = Event (record { timestamp = timestamp_most; relay_id = relay_id_most; events = Empty })
most_payload type.Command = Command (record { timestamp = timestamp_most; relay_id = relay_id_most; commands = Empty })

abbrev pub least_packet : PayloadType → MeshPacket
least_packet t = record { mhdr = record { payload_type = t; hop_count = hops_least }; payload = least_payload t; has_mic = true; mic = mic_least }

abbrev pub most_packet : PayloadType → MeshPacket
most_packet t = record { mhdr = record { payload_type = t; hop_count = hops_most }; payload = most_payload t; has_mic = true; mic = mic_most }

-- and of a path entry alone
abbrev pub least_entry : RelayPath
least_entry = record { relay_id = relay_id_least; rssi = rssi_least; snr = snr_least; odd = odd_least }

abbrev pub most_entry : RelayPath
most_entry = record { relay_id = relay_id_most; rssi = rssi_most; snr = snr_most; odd = odd_most }
