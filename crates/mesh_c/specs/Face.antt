-- Answers for C: 0 or the refusal's number (`number_in`), and where values are stored all as it was when it refuses (`left_by`).
-- Here: what is stored of each value, and packets as numbers. Assumes nothing.
use Rattle.std.specs.Prelude.{ℕ, Bool, true, List, [], ◌∷◌, ltb, ℤ, pos, get_or}
use Rattle.base.specs.Pick.{pick}
use Rattle.base.specs.Numbers.{type_large}
use Rattle.base.specs.Answers.{Answer, value, number, left_by, Writing, bytes, refused}
use Rattle.fields.specs.Limits.{timestamp_most, relay_id_most}
use Rattle.keys.specs.declared.Aes128Key.{Aes128Key}
use Rattle.fields.specs.Header.{code_of, type_read, header_byte}
use Rattle.fields.specs.declared.header.MHDR.{MHDR}
use Rattle.fields.specs.declared.header.PayloadType.{PayloadType}
use Rattle.fields.specs.declared.header.TypeRead.{TypeRead}
use Rattle.fields.specs.declared.header.TypeRead.TheVariants.{Kind, Refused as NoKind}
use Rattle.fields.specs.declared.header.HeaderByte.{HeaderByte}
use Rattle.fields.specs.declared.header.HeaderByte.TheVariants.{Refused as NoByte}
use Rattle.fields.specs.declared.meta.UplinkMetadata.{UplinkMetadata}
use Rattle.fields.specs.declared.meta.DownlinkMetadata.{DownlinkMetadata}
use Rattle.fields.specs.declared.path.RelayPath.{RelayPath}
use Rattle.heartbeats.specs.declared.heartbeat.HeartbeatPayload.{HeartbeatPayload}
use Rattle.items.specs.Items.{kind_code, Found, kept_item, skipped_item, cut_tail, no_item}
use Rattle.items.specs.declared.item.Item.{Item}
use Rattle.items.specs.declared.count.Opening.{Opening}
use Rattle.contents.specs.Content.{Lent}
use Rattle.links.specs.Write.{limited_of}
use Rattle.packets.specs.Write.{payload_wire}
use Rattle.packets.specs.declared.mesh.MeshPacket.{MeshPacket}
use Rattle.packets.specs.declared.mesh.MeshRead.{MeshRead}
use Rattle.packets.specs.declared.mesh.MeshRead.TheVariants.{Mesh, Refused as NoMesh}
use Rattle.sealing.specs.Open.{Told, told, was_open}
use Rattle.sealing.specs.Mesh.{seal_of, mesh_sealed, mesh_decrypted, mesh_work, mesh_decoded}
use Rattle.sealing.specs.declared.mesh.MeshOpened.{MeshOpened}
use Rattle.sealing.specs.declared.mesh.MeshOpened.TheVariants.{Refused as NotOpened}
use Rattle.mic.specs.Mic.{set_mic, validate_mic}
use Rattle.mic.specs.declared.Validated.{Validated}
use Rattle.mic.specs.declared.Validated.TheVariants.{Refused as NotValidated}
use Rattle.dump.specs.Dump.{mesh_text}
use Rattle.numbers.specs.Numbers.{bit, payload_place, at_most, mesh_from, mic_set, place_set}
use Rattle.cache.specs.Cache.{rec, record_of}
use Rattle.cache.specs.declared.record.PayloadCache.{PayloadCache}
use Rattle.cache.specs.declared.ring.CacheAnswer.{CacheAnswer}
use Rattle.cache.specs.declared.ring.CacheAnswer.TheVariants.{Refused as NotAdded}
use Rattle.cache_words.specs.inner.Packed.{add_answer, add_words}

-- the version of the declarations in include/mesh.h
abbrev pub face_version : ℕ
face_version = 6

-- ---- keys, fields and items

abbrev pub as_it_is : {A : Type 0} → A → A
as_it_is a = a

abbrev pub key_bytes : Aes128Key → List ℕ
key_bytes k = k.0

-- type and hop count of a header
abbrev pub header_list : MHDR → List ℕ
header_list h = code_of h.payload_type ∷ h.hop_count ∷ []

-- 29 of the type, then 6 and 7
abbrev pub header_byte_by : ℕ → TypeRead → HeaderByte
header_byte_by hops (Kind t) = header_byte (record { payload_type = t; hop_count = hops })
header_byte_by hops (NoKind n) = NoByte n

abbrev pub up_list : UplinkMetadata → List ℕ
up_list m = m.uplink_id ∷ m.dr ∷ m.channel ∷ m.odd ∷ []

abbrev pub down_list : DownlinkMetadata → List ℕ
down_list m = m.uplink_id ∷ m.dr ∷ m.frequency ∷ m.tx_power ∷ m.delay ∷ []

-- kept items, skipped items, the bytes of kept items, of skipped items and of the cut tail, and whether all was kept
abbrev pub count_list : Opening → List ℕ
count_list o = o.kept ∷ o.skipped ∷ o.kept_bytes ∷ o.skipped_bytes ∷ o.cut_bytes ∷ bit o.clean ∷ []

abbrev pub item_list : ℕ → Item → ℕ → List ℕ
item_list what i next = what ∷ kind_code i.kind ∷ i.tag ∷ i.value.start ∷ i.value.len ∷ next ∷ []

-- what was found, its kind and tag, place and length of its value or of the tail, and the place behind it
abbrev pub found_list : Found → List ℕ
found_list (no_item next) = 0 ∷ 0 ∷ 0 ∷ 0 ∷ 0 ∷ next ∷ []
found_list (kept_item i next) = item_list 1 i next
found_list (skipped_item i next) = item_list 2 i next
found_list (cut_tail r next) = 3 ∷ 0 ∷ 0 ∷ r.start ∷ r.len ∷ next ∷ []

abbrev pub entries_in : HeartbeatPayload → ℕ
entries_in h = h.entries

abbrev pub entry_relay : RelayPath → ℕ
entry_relay p = p.relay_id

abbrev pub entry_rssi : RelayPath → ℤ
entry_rssi p = p.rssi

abbrev pub entry_snr : RelayPath → ℤ
entry_snr p = p.snr

abbrev pub entry_odd : RelayPath → ℕ
entry_odd p = p.odd

-- ---- what is done to the packet that numbers stand for; 29 where they stand for none

abbrev pub if_mesh : {A : Type 0} → (MeshPacket → A) → (ℕ → A) → MeshRead → A
if_mesh f g (Mesh p) = f p
if_mesh f g (NoMesh n) = g n

-- the body alone
unfoldable pub numbers_body : Lent → List ℕ → ℤ → ℤ → Writing
numbers_body l ns rssi snr = if_mesh (λ (p : MeshPacket). limited_of (payload_wire l p.payload)) refused (mesh_from ns rssi snr)

unfoldable pub numbers_signed : (List ℕ → List ℕ) → Lent → List ℕ → ℤ → ℤ → MeshRead
numbers_signed E l ns rssi snr = if_mesh (set_mic E l) NoMesh (mesh_from ns rssi snr)

unfoldable pub numbers_valid : (List ℕ → List ℕ) → Lent → List ℕ → ℤ → ℤ → Validated
numbers_valid E l ns rssi snr = if_mesh (validate_mic E l) NotValidated (mesh_from ns rssi snr)

-- sealing and opening: rssi and snr do not count, so 0 stands for them

unfoldable pub numbers_sealed : List ℕ → Lent → List ℕ → List ℕ → MeshRead
numbers_sealed k l ns out = if_mesh (λ (p : MeshPacket). mesh_sealed k l p p.payload out) NoMesh (mesh_from ns (pos 0) (pos 0))

unfoldable pub numbers_seal : List ℕ → Lent → List ℕ → Writing
numbers_seal k l ns = if_mesh (λ (p : MeshPacket). seal_of k l p.payload) refused (mesh_from ns (pos 0) (pos 0))

unfoldable pub numbers_decrypted : List ℕ → List ℕ → List ℕ → List ℕ → MeshOpened
numbers_decrypted k ns frame work = if_mesh (λ (p : MeshPacket). mesh_decrypted k p p.payload frame work) NotOpened (mesh_from ns (pos 0) (pos 0))

unfoldable pub numbers_work : List ℕ → List ℕ → List ℕ → List ℕ → List ℕ
numbers_work k ns frame work = if_mesh (λ (p : MeshPacket). mesh_work k p.payload frame work) (λ (n : ℕ). work) (mesh_from ns (pos 0) (pos 0))

unfoldable pub numbers_decoded : List ℕ → List ℕ → List ℕ → MeshOpened
numbers_decoded ns frame work = if_mesh (λ (p : MeshPacket). mesh_decoded p p.payload frame work) NotOpened (mesh_from ns (pos 0) (pos 0))

-- its text, which has neither rssi nor snr
unfoldable pub numbers_text : List ℕ → Writing
numbers_text ns = if_mesh (λ (p : MeshPacket). bytes (mesh_text p)) refused (mesh_from ns (pos 0) (pos 0))

-- the numbers after, in place: those before with the MIC, or with content, start and len; all as before on a refusal
abbrev pub signed_left : List ℕ → Answer MeshPacket → List ℕ
signed_left ns a = left_by (λ (p : MeshPacket). mic_set ns p.mic) ns a

abbrev pub placed_left : List ℕ → Answer MeshPacket → List ℕ
placed_left ns a = left_by (λ (p : MeshPacket). place_set ns (payload_place p.payload)) ns a

-- an opening says 255 where the content was open before
abbrev pub opened_number : {A : Type 0} → Answer (Told A) → ℕ
opened_number (value (told a o)) = 0
opened_number (value was_open) = 255
opened_number (number n) = n

abbrev pub counts_left : {A : Type 0} → List ℕ → Answer (Told A) → List ℕ
counts_left old (value (told a o)) = count_list o
counts_left old (value was_open) = old
counts_left old (number n) = old

abbrev pub opened_left : List ℕ → Answer (Told MeshPacket) → List ℕ
opened_left ns (value (told p o)) = place_set ns (payload_place p.payload)
opened_left ns (value was_open) = ns
opened_left ns (number n) = ns

-- ---- the duplicate cache

abbrev pub record_list : PayloadCache → List ℕ
record_list r = code_of r.p_type ∷ r.uplink_id ∷ r.timestamp ∷ r.relay_id ∷ []

abbrev pub record_in : MeshPacket → List ℕ
record_in p = record_list (record_of p)

-- a record of numbers added to a cache in words: 29 of a number that is wider than its field, and of its type, then 24
unfoldable pub record_wide : List ℕ → Bool
record_wide rs = pick (ltb 65535 (get_or rs 1 0)) true (pick (ltb timestamp_most (get_or rs 2 0)) true (ltb relay_id_most (get_or rs 3 0)))

abbrev pub record_from : List ℕ → PayloadType → PayloadCache
record_from rs t = rec t (at_most 65535 (get_or rs 1 0)) (at_most 4294967295 (get_or rs 2 0)) (at_most 4294967295 (get_or rs 3 0))

abbrev pub answer_by : List ℕ → List ℕ → TypeRead → CacheAnswer
answer_by w rs (Kind t) = add_answer w (record_from rs t)
answer_by w rs (NoKind n) = NotAdded n

abbrev pub words_by : List ℕ → List ℕ → TypeRead → List ℕ
words_by w rs (Kind t) = add_words w (record_from rs t)
words_by w rs (NoKind n) = w

unfoldable pub cache_answer : List ℕ → List ℕ → CacheAnswer
cache_answer w rs = pick (record_wide rs) (NotAdded type_large) (answer_by w rs (type_read (get_or rs 0 0)))

unfoldable pub cache_words : List ℕ → List ℕ → List ℕ
cache_words w rs = pick (record_wide rs) w (words_by w rs (type_read (get_or rs 0 0)))
