-- A packet as numbers, and back. They are, in their order: kind, payload_type, hop_count, has_mic, mic, relay_id, uplink_id, dr, channel,
-- frequency, tx_power, delay, timestamp, content, start, len, odd. Beside them stand rssi and snr. Assumes nothing.
use Rattle.std.specs.Prelude.{ℕ, Bool, true, false, not, List, [], ◌∷◌, ◌++◌, ltb, eqb, ℤ, pos, get_or, set}
use Rattle.base.specs.Pick.{pick}
use Rattle.base.specs.Numbers.{type_large}
use Rattle.base.specs.Answers.{Writing, refused}
use Rattle.wire.specs.declared.run.Run.{Run}
use Rattle.fields.specs.Limits.{mic_most, relay_id_most, channel_most, timestamp_most}
use Rattle.fields.specs.Header.{code_of, type_read}
use Rattle.fields.specs.declared.header.MHDR.{MHDR}
use Rattle.fields.specs.declared.header.PayloadType.{PayloadType}
use Rattle.fields.specs.declared.header.PayloadType.TheVariants.{Uplink, Downlink, Event, Command}
use Rattle.fields.specs.declared.header.TypeRead.{TypeRead}
use Rattle.fields.specs.declared.header.TypeRead.TheVariants.{Kind, Refused as NoKind}
use Rattle.contents.specs.Content.{Lent}
use Rattle.contents.specs.declared.content.Held.TheVariants.{Frame as InFrame, Work as InWork}
use Rattle.contents.specs.declared.content.Content.{Content}
use Rattle.contents.specs.declared.content.Content.TheVariants.{Empty, Sealed, Open, Items}
use Rattle.links.specs.Read.{uplink_at, downlink_at}
use Rattle.links.specs.declared.uplink.UplinkPayload.{UplinkPayload}
use Rattle.links.specs.declared.downlink.DownlinkPayload.{DownlinkPayload}
use Rattle.events.specs.Read.{event_at, command_at}
use Rattle.packets.specs.Read.{of_uplink, of_downlink, of_event, of_command, of_mesh, odd_in}
use Rattle.packets.specs.Write.{packet_frame}
use Rattle.packets.specs.declared.mesh.Payload.{Payload}
use Rattle.packets.specs.declared.mesh.Payload.TheVariants.{Uplink as AnUplink, Downlink as ADownlink, Event as AnEvent, Command as ACommand}
use Rattle.packets.specs.declared.mesh.PayloadRead.{PayloadRead}
use Rattle.packets.specs.declared.mesh.PayloadRead.TheVariants.{Payload as PayloadIs, Refused as NoPayload}
use Rattle.packets.specs.declared.mesh.MeshPacket.{MeshPacket}
use Rattle.packets.specs.declared.mesh.MeshRead.{MeshRead}
use Rattle.packets.specs.declared.mesh.MeshRead.TheVariants.{Mesh, Refused}
use Rattle.packets.specs.declared.any.Packet.{Packet}
use Rattle.packets.specs.declared.any.Packet.TheVariants.{Mesh as AMesh, Lora}
use Rattle.packets.specs.declared.any.PacketRead.{PacketRead}
use Rattle.packets.specs.declared.any.PacketRead.TheVariants.{Packet as PacketIs, Refused as NoPacket}

-- ---- to numbers: what does not count is 0

abbrev pub bit : Bool → ℕ
bit true = 1
bit false = 0

-- content, start and len
abbrev pub content_place : Content → List ℕ
content_place Empty = 0 ∷ 0 ∷ 0 ∷ []
content_place (Sealed r) = 1 ∷ r.start ∷ r.len ∷ []
content_place (Open InFrame r) = 2 ∷ r.start ∷ r.len ∷ []
content_place (Open InWork r) = 3 ∷ r.start ∷ r.len ∷ []
content_place (Items n) = 4 ∷ 0 ∷ n ∷ []

abbrev pub payload_place : Payload → List ℕ
payload_place (AnUplink u) = 0 ∷ u.phy_payload.start ∷ u.phy_payload.len ∷ []
payload_place (ADownlink u) = 0 ∷ u.phy_payload.start ∷ u.phy_payload.len ∷ []
payload_place (AnEvent u) = content_place u.events
payload_place (ACommand u) = content_place u.commands

-- relay_id, uplink_id, dr, channel, frequency, tx_power, delay, timestamp
abbrev pub stamped_fields : ℕ → ℕ → List ℕ
stamped_fields relay time = relay ∷ 0 ∷ 0 ∷ 0 ∷ 0 ∷ 0 ∷ 0 ∷ time ∷ []

abbrev pub payload_fields : Payload → List ℕ
payload_fields (AnUplink u) = u.relay_id ∷ u.metadata.uplink_id ∷ u.metadata.dr ∷ u.metadata.channel ∷ 0 ∷ 0 ∷ 0 ∷ 0 ∷ []
payload_fields (ADownlink u) =
    u.relay_id ∷ u.metadata.uplink_id ∷ u.metadata.dr ∷ 0 ∷ u.metadata.frequency ∷ u.metadata.tx_power ∷ u.metadata.delay ∷ 0 ∷ []
payload_fields (AnEvent u) = stamped_fields u.relay_id u.timestamp
payload_fields (ACommand u) = stamped_fields u.relay_id u.timestamp

-- the payload says the kind, the header the type
abbrev pub payload_kind : Payload → ℕ
payload_kind (AnUplink u) = 0
payload_kind (ADownlink u) = 1
payload_kind (AnEvent u) = 2
payload_kind (ACommand u) = 3

abbrev pub listed : ℕ → MHDR → Bool → ℕ → List ℕ → List ℕ → ℕ → List ℕ
listed kind h has mic fields place odd = kind ∷ code_of h.payload_type ∷ h.hop_count ∷ bit has ∷ mic ∷ (fields ++ place ++ (odd ∷ []))

unfoldable pub mesh_numbers : MeshPacket → List ℕ
mesh_numbers p = listed (payload_kind p.payload) p.mhdr p.has_mic p.mic (payload_fields p.payload) (payload_place p.payload) (odd_in p.payload)

unfoldable pub numbers_in : Packet → List ℕ
numbers_in (AMesh p) = mesh_numbers p
numbers_in (Lora r) = 4 ∷ 0 ∷ 0 ∷ 0 ∷ 0 ∷ 0 ∷ 0 ∷ 0 ∷ 0 ∷ 0 ∷ 0 ∷ 0 ∷ 0 ∷ 0 ∷ r.start ∷ r.len ∷ 0 ∷ []

abbrev pub payload_rssi : Payload → ℤ
payload_rssi (AnUplink u) = u.metadata.rssi
payload_rssi (ADownlink u) = pos 0
payload_rssi (AnEvent u) = pos 0
payload_rssi (ACommand u) = pos 0

abbrev pub payload_snr : Payload → ℤ
payload_snr (AnUplink u) = u.metadata.snr
payload_snr (ADownlink u) = pos 0
payload_snr (AnEvent u) = pos 0
payload_snr (ACommand u) = pos 0

abbrev pub mesh_rssi : MeshPacket → ℤ
mesh_rssi p = payload_rssi p.payload

abbrev pub mesh_snr : MeshPacket → ℤ
mesh_snr p = payload_snr p.payload

unfoldable pub rssi_in : Packet → ℤ
rssi_in (AMesh p) = mesh_rssi p
rssi_in (Lora r) = pos 0

unfoldable pub snr_in : Packet → ℤ
snr_in (AMesh p) = mesh_snr p
snr_in (Lora r) = pos 0

-- ---- a body read, which lies in its frame from byte `at` on, and the packet around it

unfoldable pub body_read : ℕ → PayloadType → List ℕ → PayloadRead
body_read at Uplink b = of_uplink (uplink_at at b)
body_read at Downlink b = of_downlink (downlink_at at b)
body_read at Event b = of_event (event_at at b)
body_read at Command b = of_command (command_at at b)

abbrev pub around : MHDR → Bool → ℕ → PayloadRead → MeshRead
around h has mic (PayloadIs p) = Mesh (record { mhdr = h; payload = p; has_mic = has; mic = mic })
around h has mic (NoPayload n) = Refused n

-- a body alone, as a packet with hop count 0 and without a MIC: 29, then as the reader of its type
abbrev pub bare_by : List ℕ → TypeRead → MeshRead
bare_by b (Kind t) = around (record { payload_type = t; hop_count = 0 }) false 0 (body_read 0 t b)
bare_by b (NoKind n) = Refused n

-- ---- and back

-- a number in a field that holds none over `most` (255, 65,535 or 4,294,967,295, by its width): a larger one counts as the largest, and the
-- field's own refusal names it at its place in the order
unfoldable pub at_most : ℕ → ℕ → ℕ
at_most most n = pick (ltb most n) most n

-- a MIC, relay id, uplink id, channel or timestamp wider than its field: nothing later would refuse it, in a frame or in a record, and two packets
-- would be taken for one
unfoldable pub too_wide : List ℕ → Bool
too_wide ns =
    pick (ltb mic_most (get_or ns 4 0)) true
    (pick (ltb relay_id_most (get_or ns 5 0)) true
    (pick (ltb 65535 (get_or ns 6 0)) true (pick (ltb channel_most (get_or ns 8 0)) true (ltb timestamp_most (get_or ns 12 0)))))

-- a content code over 4 of an event or a command; of other kinds it does not count
unfoldable pub strange_content : List ℕ → Bool
strange_content ns = pick (ltb (get_or ns 0 0) 2) false (ltb 4 (get_or ns 13 0))

abbrev pub run_from : List ℕ → Run
run_from ns = record { start = get_or ns 14 0; len = get_or ns 15 0 }

unfoldable pub content_from : List ℕ → Content
content_from ns =
    pick (eqb (get_or ns 13 0) 0) Empty
    (pick (eqb (get_or ns 13 0) 1) (Sealed (run_from ns))
    (pick (eqb (get_or ns 13 0) 2) (Open InFrame (run_from ns))
    (pick (eqb (get_or ns 13 0) 3) (Open InWork (run_from ns)) (Items (get_or ns 15 0)))))

abbrev pub uplink_from : List ℕ → ℤ → ℤ → UplinkPayload
uplink_from ns rssi snr =
    record {
      metadata = record {
        uplink_id = at_most 65535 (get_or ns 6 0);
        dr = at_most 255 (get_or ns 7 0);
        rssi = rssi;
        snr = snr;
        channel = at_most 255 (get_or ns 8 0);
        odd = at_most 255 (get_or ns 16 0);
      };
      relay_id = at_most 4294967295 (get_or ns 5 0);
      phy_payload = run_from ns;
    }

abbrev pub downlink_from : List ℕ → DownlinkPayload
downlink_from ns =
    record {
      metadata = record {
        uplink_id = at_most 65535 (get_or ns 6 0);
        dr = at_most 255 (get_or ns 7 0);
        frequency = at_most 4294967295 (get_or ns 9 0);
        tx_power = at_most 255 (get_or ns 10 0);
        delay = at_most 255 (get_or ns 11 0);
      };
      relay_id = at_most 4294967295 (get_or ns 5 0);
      phy_payload = run_from ns;
    }

abbrev pub payload_from : List ℕ → ℤ → ℤ → PayloadType → Payload
payload_from ns rssi snr Uplink = AnUplink (uplink_from ns rssi snr)
payload_from ns rssi snr Downlink = ADownlink (downlink_from ns)
payload_from ns rssi snr Event =
    AnEvent (record { timestamp = at_most 4294967295 (get_or ns 12 0); relay_id = at_most 4294967295 (get_or ns 5 0); events = content_from ns })
payload_from ns rssi snr Command =
    ACommand (record { timestamp = at_most 4294967295 (get_or ns 12 0); relay_id = at_most 4294967295 (get_or ns 5 0); commands = content_from ns })

abbrev pub typed_by : List ℕ → ℤ → ℤ → PayloadType → TypeRead → MeshRead
typed_by ns rssi snr kind (NoKind n) = Refused n
typed_by ns rssi snr kind (Kind t) = Mesh (record {
  mhdr = record { payload_type = t; hop_count = at_most 255 (get_or ns 2 0) };
  payload = payload_from ns rssi snr kind;
  has_mic = not (eqb (get_or ns 3 0) 0);
  mic = at_most 4294967295 (get_or ns 4 0);
})

abbrev pub kind_by : List ℕ → ℤ → ℤ → TypeRead → MeshRead
kind_by ns rssi snr (NoKind n) = Refused n
kind_by ns rssi snr (Kind kind) = typed_by ns rssi snr kind (type_read (get_or ns 1 0))

-- 29 of what is too wide, of the content, the kind and the header's type
unfoldable pub mesh_from : List ℕ → ℤ → ℤ → MeshRead
mesh_from ns rssi snr =
    pick (too_wide ns) (Refused type_large) (pick (strange_content ns) (Refused type_large) (kind_by ns rssi snr (type_read (get_or ns 0 0))))

unfoldable pub packet_from : List ℕ → ℤ → ℤ → PacketRead
packet_from ns rssi snr =
    pick (too_wide ns) (NoPacket type_large) (pick (eqb (get_or ns 0 0) 4) (PacketIs (Lora (run_from ns))) (of_mesh (mesh_from ns rssi snr)))

-- ---- the numbers with another MIC, and with another content, start and len; the others stay as they are

abbrev pub mic_set : List ℕ → ℕ → List ℕ
mic_set ns mic = set (set ns 3 1) 4 mic

abbrev pub place_set : List ℕ → List ℕ → List ℕ
place_set ns place = set (set (set ns 13 (get_or place 0 0)) 14 (get_or place 1 0)) 15 (get_or place 2 0)

-- ---- what is written of the packet that numbers stand for

abbrev pub if_packet : {A : Type 0} → (Packet → A) → (ℕ → A) → PacketRead → A
if_packet f g (PacketIs p) = f p
if_packet f g (NoPacket n) = g n

unfoldable pub numbers_frame : Lent → List ℕ → ℤ → ℤ → Writing
numbers_frame l ns rssi snr = if_packet (packet_frame l) refused (packet_from ns rssi snr)
