-- The face for C, over the definitions that the contracts of crate mesh_c are equations with. Its answer is 0 exactly if the call below
-- accepts. Whatever other number it answers, 255 of `mesh_decode` too, every place that was lent to it is as before. Assumes nothing.
use Prim.Native.Nat.{ℕ, ◌<◌}
use native.Mathlib.Omega.{arith}
use mathlib.Core.Bool.{Bool, true, false, not}
use mathlib.Core.Path.{◌≡◌, refl, sym, ap, ◌∙◌}
use mathlib.Core.List.{List, ◌++◌}
use lib.Dec.{ltb, eqb}
use lib.IntN.{ℤ, pos}
use lib.ListN.{length, drop, get_or, set}
use lib.Seq.{get_or-set_other}
use borrow.Author.Tests.{lt-ltb, le-ltb, ne_eqb}
use Rattle.base.specs.Pick.{pick}
use Rattle.base.specs.Numbers.{type_large}
use Rattle.base.specs.Answers.{Answer, value, number, number_in, left_by, Writing, bytes, refused, answer_of, out_of, written_says, checked_of, checked_number, checked_says}
use Rattle.base.specs.declared.Checked.{Checked}
use Rattle.base.specs.declared.Checked.TheVariants as checked
use Rattle.fields.specs.Header.{type_read, type_says, byte_says}
use Rattle.fields.specs.Limits.{mic_most, relay_id_most, channel_most, timestamp_most}
use Rattle.fields.specs.declared.header.MHDR.{MHDR}
use Rattle.fields.specs.declared.header.PayloadType.{PayloadType}
use Rattle.fields.specs.declared.header.PayloadType.TheVariants as type
use Rattle.fields.specs.declared.header.TypeRead.{TypeRead}
use Rattle.fields.specs.declared.header.TypeRead.TheVariants.{Kind, Refused as NoKind}
use Rattle.items.specs.declared.count.Opening.{Opening}
use Rattle.contents.specs.Content.{Lent}
use Rattle.contents.specs.declared.content.Content.{Content}
use Rattle.contents.specs.declared.content.Content.TheVariants.{Empty, Sealed, Open, Items}
use Rattle.links.specs.Read.{uplink_at, downlink_at, uplink_says, downlink_says}
use Rattle.links.specs.Write.{limited_of}
use Rattle.links.specs.declared.uplink.UplinkRead.{UplinkRead}
use Rattle.links.specs.declared.uplink.UplinkRead.TheVariants as uplink
use Rattle.links.specs.declared.downlink.DownlinkRead.{DownlinkRead}
use Rattle.links.specs.declared.downlink.DownlinkRead.TheVariants as downlink
use Rattle.events.specs.Read.{event_at, command_at, event_says, command_says}
use Rattle.events.specs.declared.stamped.EventPayload.{EventPayload}
use Rattle.events.specs.declared.stamped.EventRead.{EventRead}
use Rattle.events.specs.declared.stamped.EventRead.TheVariants as event
use Rattle.events.specs.declared.stamped.CommandPayload.{CommandPayload}
use Rattle.events.specs.declared.stamped.CommandRead.{CommandRead}
use Rattle.events.specs.declared.stamped.CommandRead.TheVariants as command
use Rattle.packets.specs.Read.{of_uplink, of_downlink, of_event, of_command, of_mesh, mesh_says, packet_says, even_payload, even_mesh}
use Rattle.packets.specs.Write.{payload_wire, mesh_frame, packet_frame}
use Rattle.round_trips.proofs.Even.{even_written}
use Rattle.packets.specs.declared.mesh.PayloadRead.{PayloadRead}
use Rattle.packets.specs.declared.mesh.PayloadRead.TheVariants as body
use Rattle.sealing.specs.Mesh.{seal_of, mesh_sealed, of_event_opened, of_command_opened, mesh_decrypted, mesh_work, mesh_decoded, mesh_opened_says}
use Rattle.packets.specs.declared.mesh.Payload.{Payload}
use Rattle.packets.specs.declared.mesh.Payload.TheVariants as payload
use Rattle.packets.specs.declared.mesh.MeshPacket.{MeshPacket}
use Rattle.packets.specs.declared.mesh.MeshRead.{MeshRead}
use Rattle.packets.specs.declared.mesh.MeshRead.TheVariants.{Mesh, Refused as NoMesh}
use Rattle.packets.specs.declared.any.Packet.TheVariants.{Lora}
use Rattle.packets.specs.declared.any.PacketRead.{PacketRead}
use Rattle.packets.specs.declared.any.PacketRead.TheVariants as packet
use Rattle.sealing.specs.Open.{opened_by, seal_wire, decrypt_of, work_after, Told, told, was_open, opened_says}
use Rattle.sealing.specs.Seal.{event_opened, command_opened}
use Rattle.sealing.specs.Mesh.{seal_of, mesh_sealed, of_event_opened, of_command_opened, mesh_decrypted, mesh_work, mesh_decoded, mesh_opened_says}
use Rattle.sealing.specs.declared.content.Opened.{Opened}
use Rattle.sealing.specs.declared.content.Opened.TheVariants as opened
use Rattle.sealing.specs.declared.mesh.MeshOpened.TheVariants.{Refused as NotOpened}
use Rattle.mic.specs.Mic.{set_mic, validate_mic, valid_says}
use Rattle.mic.specs.declared.Validated.TheVariants.{Refused as NotValidated}
use Rattle.hops.specs.Hops.{leaves}
use Rattle.cache.specs.Cache.{add_says}
use Rattle.cache.specs.declared.ring.CacheAnswer.TheVariants.{Refused as NotAdded}
use Rattle.cache_words.specs.inner.Packed.{clear_answer, clear_words}
use Rattle.dump.specs.Dump.{mesh_text}
use Rattle.numbers.specs.Numbers.{body_read, around, bare_by, at_most, too_wide, strange_content, content_from, payload_from, typed_by, kind_by, mesh_from, packet_from, if_packet, numbers_frame, run_from}
use Rattle.mesh_c.specs.Face.{header_byte_by, if_mesh, numbers_body, numbers_text, numbers_signed, numbers_valid, numbers_sealed, numbers_seal, numbers_decrypted, numbers_work, numbers_decoded, opened_number, counts_left, opened_left, record_wide, record_from, answer_by, words_by, cache_answer, cache_words}
use Rattle.promises.specs.Said.{Accepts, Numbered}
use Rattle.promises.proofs.Demand1.{refused_writes_nothing, refused_edit_changes_nothing, refused_clear_changes_nothing, refused_add_changes_no_word, refused_sealing_writes_nothing}
use Rattle.promises.proofs.Refusals.{picked, zero_accepts, accepts_zero, no_refusal_is_0}

-- ---- places that a refusal leaves

-- an answer that is not 0 is a number
refuses : {A : Type 0} (a : Answer A) → (number_in a ≡ 0 → ⊥) → (n : ℕ) × (a ≡ number n)
refuses (value v) h = absurd (h refl)
refuses (number n) h = (n, refl)

checked_refuses : {A : Type 0} (c : Checked) (a : A) → (checked_number c ≡ 0 → ⊥) → (n : ℕ) × (checked_says c a ≡ number n)
checked_refuses checked.Accepted a h = absurd (h refl)
checked_refuses (checked.Refused n) a h = (n, refl)

left : {A : Type 0} → {B : Type 0} → (f : A → B) (old : B) (a : Answer A) → (number_in a ≡ 0 → ⊥) → left_by f old a ≡ old
left f old (value v) h = absurd (h refl)
left f old (number n) h = refl

out_left : (f : Writing) (out : List ℕ) → (number_in (written_says (answer_of f out)) ≡ 0 → ⊥) → out_of f out ≡ out
out_left f out h = let r = refuses (written_says (answer_of f out)) h in refused_writes_nothing f out r.0 r.1

frame_left : (f : Writing) (s : List ℕ) → (checked_number (checked_of f) ≡ 0 → ⊥) → leaves f s ≡ s
frame_left f s h = let r = checked_refuses (checked_of f) (leaves f s) h in refused_edit_changes_nothing f s r.0 r.1

-- ---- sealing and opening, of the packet that numbers stand for

sealed_left : (k : List ℕ) (l : Lent) (ns out : List ℕ) → (number_in (mesh_says (numbers_sealed k l ns out)) ≡ 0 → ⊥) → out_of (numbers_seal k l ns) out ≡ out
unfolding numbers_sealed numbers_seal out_of
sealed_left k l ns out h = by (mesh_from ns (pos 0) (pos 0)) h where
  by : (r : MeshRead) → (number_in (mesh_says (if_mesh (λ (p : MeshPacket). mesh_sealed k l p p.payload out) NoMesh r)) ≡ 0 → ⊥)
      → out_of (if_mesh (λ (p : MeshPacket). seal_of k l p.payload) refused r) out ≡ out
  by (Mesh p) g = let r = refuses (mesh_says (mesh_sealed k l p p.payload out)) g in refused_sealing_writes_nothing k l p p.payload out r.0 r.1
  by (NoMesh n) g = refl

opened_left_lem : (ev : Bool) (f : Writing) (w : List ℕ) → (opened_number (opened_says (opened_by ev f w)) ≡ 0 → ⊥) → out_of f w ≡ w
unfolding opened_by out_of
opened_left_lem ev (refused k) w h = refl
opened_left_lem ev (bytes c) w h = by (ltb (length w) (length c)) refl where
  by : (t : Bool) → ltb (length w) (length c) ≡ t → pick (ltb (length w) (length c)) w (c ++ drop (length c) w) ≡ w
  by true q = simp q
  by false q = absurd (h (simp q))

content_left : (key : List ℕ) (ev : Bool) (relay time : ℕ) (b : Content) (f w : List ℕ)
    → (opened_number (opened_says (decrypt_of key ev relay time b f w)) ≡ 0 → ⊥) → work_after key ev relay time b f w ≡ w
unfolding decrypt_of work_after
content_left key ev relay time Empty f w h = refl
content_left key ev relay time (Sealed r) f w h = opened_left_lem ev (seal_wire key ev relay time f r) w h
content_left key ev relay time (Open d r) f w h = refl
content_left key ev relay time (Items k) f w h = refl

event_number : (p : MeshPacket) (u : EventPayload) (o : Opened) → opened_number (opened_says o) ≡ opened_number (mesh_opened_says (of_event_opened p (event_opened u o)))
event_number p u (opened.Opened b k) = refl
event_number p u opened.AlreadyOpen = refl
event_number p u (opened.Refused n) = refl

command_number : (p : MeshPacket) (u : CommandPayload) (o : Opened) → opened_number (opened_says o) ≡ opened_number (mesh_opened_says (of_command_opened p (command_opened u o)))
command_number p u (opened.Opened b k) = refl
command_number p u opened.AlreadyOpen = refl
command_number p u (opened.Refused n) = refl

packet_left : (key : List ℕ) (p : MeshPacket) (q : Payload) (f w : List ℕ) → (opened_number (mesh_opened_says (mesh_decrypted key p q f w)) ≡ 0 → ⊥) → mesh_work key q f w ≡ w
unfolding mesh_decrypted mesh_work
packet_left key p (payload.Uplink u) f w h = refl
packet_left key p (payload.Downlink u) f w h = refl
packet_left key p (payload.Event u) f w h =
    let o = decrypt_of key true u.relay_id u.timestamp u.events f w in
    content_left key true u.relay_id u.timestamp u.events f w (λ e. h (sym (event_number p u o) ∙ e))
packet_left key p (payload.Command u) f w h =
    let o = decrypt_of key false u.relay_id u.timestamp u.commands f w in
    content_left key false u.relay_id u.timestamp u.commands f w (λ e. h (sym (command_number p u o) ∙ e))

work_left : (k ns frame work : List ℕ) → (opened_number (mesh_opened_says (numbers_decrypted k ns frame work)) ≡ 0 → ⊥) → numbers_work k ns frame work ≡ work
unfolding numbers_decrypted numbers_work
work_left k ns frame work h = by (mesh_from ns (pos 0) (pos 0)) h where
  by : (r : MeshRead) → (opened_number (mesh_opened_says (if_mesh (λ (p : MeshPacket). mesh_decrypted k p p.payload frame work) NotOpened r)) ≡ 0 → ⊥)
      → if_mesh (λ (p : MeshPacket). mesh_work k p.payload frame work) (λ (n : ℕ). work) r ≡ work
  by (Mesh p) g = packet_left k p p.payload frame work g
  by (NoMesh n) g = refl

counts_left_lem : {A : Type 0} (old : List ℕ) (a : Answer (Told A)) → (opened_number a ≡ 0 → ⊥) → counts_left old a ≡ old
counts_left_lem old (value (told v o)) h = absurd (h refl)
counts_left_lem old (value was_open) h = refl
counts_left_lem old (number n) h = refl

numbers_left : (ns : List ℕ) (a : Answer (Told MeshPacket)) → (opened_number a ≡ 0 → ⊥) → opened_left ns a ≡ ns
numbers_left old (value (told v o)) h = absurd (h refl)
numbers_left old (value was_open) h = refl
numbers_left old (number n) h = refl

-- ---- the cache

clear_left : (size : ℕ) (w : List ℕ) → (checked_number (clear_answer size) ≡ 0 → ⊥) → clear_words size w ≡ w
clear_left size w h = let r = checked_refuses (clear_answer size) size h in refused_clear_changes_nothing size w r.0 r.1

words_left : (w rs : List ℕ) → (number_in (add_says (cache_answer w rs)) ≡ 0 → ⊥) → cache_words w rs ≡ w
unfolding cache_answer cache_words
words_left w rs h = by (record_wide rs) (type_read (get_or rs 0 0)) h where
  typed : (t : TypeRead) → (number_in (add_says (answer_by w rs t)) ≡ 0 → ⊥) → words_by w rs t ≡ w
  typed (Kind t) g = let r = refuses (add_says (answer_by w rs (Kind t))) g in refused_add_changes_no_word w (record_from rs t) r.0 r.1
  typed (NoKind n) g = refl

  by : (b : Bool) (t : TypeRead) → (number_in (add_says (pick b (NotAdded type_large) (answer_by w rs t))) ≡ 0 → ⊥) → pick b w (words_by w rs t) ≡ w
  by true t g = refl
  by false t g = typed t g

-- ---- whatever number other than 0 a call of the face answers, what it was lent is as before

pub record Unchanged : Type 1 where
  -- what is stored of a value: a header, a byte, hertz, a packet's numbers (also those that are signed or sealed in place), its rssi and snr,
  -- whether it is valid, counts, an item, how many entries, an entry, a length, a key, a record, whether it is new
  pub stored : {A : Type 0} → {B : Type 0} → (f : A → B) (old : B) (a : Answer A) → (number_in a ≡ 0 → ⊥) → left_by f old a ≡ old
  -- the output of every call that writes, and of `mesh_stream`
  pub output : (f : Writing) (out : List ℕ) → (number_in (written_says (answer_of f out)) ≡ 0 → ⊥) → out_of f out ≡ out
  -- the frame of `mesh_set_hop_count`
  pub frame : (f : Writing) (s : List ℕ) → (checked_number (checked_of f) ≡ 0 → ⊥) → leaves f s ≡ s
  -- the output of `mesh_seal`
  pub sealed_output : (k : List ℕ) (l : Lent) (ns out : List ℕ) → (number_in (mesh_says (numbers_sealed k l ns out)) ≡ 0 → ⊥) → out_of (numbers_seal k l ns) out ≡ out
  -- the work buffer of `mesh_decrypt`; its counts and numbers, and those of `mesh_decode`, which answers 255 too
  pub work : (k ns frame work : List ℕ) → (opened_number (mesh_opened_says (numbers_decrypted k ns frame work)) ≡ 0 → ⊥) → numbers_work k ns frame work ≡ work
  pub counts : {A : Type 0} (old : List ℕ) (a : Answer (Told A)) → (opened_number a ≡ 0 → ⊥) → counts_left old a ≡ old
  pub numbers : (ns : List ℕ) (a : Answer (Told MeshPacket)) → (opened_number a ≡ 0 → ⊥) → opened_left ns a ≡ ns
  -- the words of `mesh_cache_clear` and `mesh_cache_add`
  pub cleared_words_lem : (size : ℕ) (w : List ℕ) → (checked_number (clear_answer size) ≡ 0 → ⊥) → clear_words size w ≡ w
  pub added_words : (w rs : List ℕ) → (number_in (add_says (cache_answer w rs)) ≡ 0 → ⊥) → cache_words w rs ≡ w

pub refused_face_changes_nothing : Unchanged
refused_face_changes_nothing =
    record {
      stored = left;
      output = out_left;
      frame = frame_left;
      sealed_output = sealed_left;
      work = work_left;
      counts = counts_left_lem;
      numbers = numbers_left;
      cleared_words_lem = clear_left;
      added_words = words_left;
    }

-- ---- no refusal of the face carries 0

type_numbered : (n : ℕ) → Numbered (type_says (type_read n))
type_numbered = no_refusal_is_0.type_from_byte

header_numbered : (hops : ℕ) (t : TypeRead) → Numbered (type_says t) → Numbered (byte_says (header_byte_by hops t))
header_numbered hops (Kind t) s = no_refusal_is_0.header_to_byte (record { payload_type = t; hop_count = hops })
header_numbered hops (NoKind n) s = s

abbrev payload_says : PayloadRead → Answer Payload
payload_says (body.Payload p) = value p
payload_says (body.Refused n) = number n

around_numbered : (h : MHDR) (has : Bool) (mic : ℕ) (r : PayloadRead) → Numbered (payload_says r) → Numbered (mesh_says (around h has mic r))
around_numbered h has mic (body.Payload p) s = tt
around_numbered h has mic (body.Refused n) s = s

body_read_numbered : (t : PayloadType) (b : List ℕ) → Numbered (payload_says (body_read 0 t b))
unfolding body_read
body_read_numbered type.Uplink b = by (uplink_at 0 b) (no_refusal_is_0.uplink_from_slice 0 b) where
  by : (r : UplinkRead) → Numbered (uplink_says r) → Numbered (payload_says (of_uplink r))
  by (uplink.Payload p) s = tt
  by (uplink.Refused n) s = s
body_read_numbered type.Downlink b = by (downlink_at 0 b) (no_refusal_is_0.downlink_from_slice 0 b) where
  by : (r : DownlinkRead) → Numbered (downlink_says r) → Numbered (payload_says (of_downlink r))
  by (downlink.Payload p) s = tt
  by (downlink.Refused n) s = s
body_read_numbered type.Event b = by (event_at 0 b) (no_refusal_is_0.event_from_slice 0 b) where
  by : (r : EventRead) → Numbered (event_says r) → Numbered (payload_says (of_event r))
  by (event.Payload p) s = tt
  by (event.Refused n) s = s
body_read_numbered type.Command b = by (command_at 0 b) (no_refusal_is_0.command_from_slice 0 b) where
  by : (r : CommandRead) → Numbered (command_says r) → Numbered (payload_says (of_command r))
  by (command.Payload p) s = tt
  by (command.Refused n) s = s

bare_numbered : (b : List ℕ) (t : TypeRead) → Numbered (type_says t) → Numbered (mesh_says (bare_by b t))
bare_numbered b (NoKind n) s = s
bare_numbered b (Kind t) s = around_numbered _ _ _ (body_read 0 t b) (body_read_numbered t b)

module _ (ns : List ℕ) (rssi snr : ℤ) where
  mesh_numbered : Numbered (mesh_says (mesh_from ns rssi snr))
  unfolding mesh_from
  mesh_numbered =
      picked mesh_says (too_wide ns) _ _ (omega arith)
      (picked mesh_says (strange_content ns) _ _ (omega arith) (by (type_read (get_or ns 0 0)) (type_numbered (get_or ns 0 0)))) where
        typed : (k : PayloadType) (t : TypeRead) → Numbered (type_says t) → Numbered (mesh_says (typed_by ns rssi snr k t))
        typed k (Kind t) s = tt
        typed k (NoKind n) s = s

        by : (t : TypeRead) → Numbered (type_says t) → Numbered (mesh_says (kind_by ns rssi snr t))
        by (Kind k) s = typed k (type_read (get_or ns 1 0)) (type_numbered (get_or ns 1 0))
        by (NoKind n) s = s

  packet_numbered : Numbered (packet_says (packet_from ns rssi snr))
  unfolding packet_from
  packet_numbered =
      picked packet_says (too_wide ns) _ _ (omega arith) (picked packet_says (eqb (get_or ns 0 0) 4) _ _ tt (by (mesh_from ns rssi snr) mesh_numbered)) where
        by : (r : MeshRead) → Numbered (mesh_says r) → Numbered (packet_says (of_mesh r))
        by (Mesh p) s = tt
        by (NoMesh n) s = s

module _ (l : Lent) (ns : List ℕ) (rssi snr : ℤ) (out : List ℕ) where
  written_numbered : Numbered (written_says (answer_of (numbers_frame l ns rssi snr) out))
  unfolding numbers_frame answer_of
  written_numbered = by (packet_from ns rssi snr) (packet_numbered ns rssi snr) where
    by : (r : PacketRead) → Numbered (packet_says r) → Numbered (written_says (answer_of (if_packet (packet_frame l) refused r) out))
    by (packet.Packet p) s = no_refusal_is_0.packet_write l p out
    by (packet.Refused n) s = s

  body_numbered : Numbered (written_says (answer_of (numbers_body l ns rssi snr) out))
  unfolding numbers_body answer_of
  body_numbered = by (mesh_from ns rssi snr) (mesh_numbered ns rssi snr) where
    by : (r : MeshRead) → Numbered (mesh_says r) → Numbered (written_says (answer_of (if_mesh (λ (p : MeshPacket). limited_of (payload_wire l p.payload)) refused r) out))
    by (Mesh p) s = no_refusal_is_0.body_write l p.payload out
    by (NoMesh n) s = s

text_numbered : (ns out : List ℕ) → Numbered (written_says (answer_of (numbers_text ns) out))
unfolding numbers_text answer_of
text_numbered ns out = by (mesh_from ns (pos 0) (pos 0)) (mesh_numbered ns (pos 0) (pos 0)) where
  by : (r : MeshRead) → Numbered (mesh_says r) → Numbered (written_says (answer_of (if_mesh (λ (p : MeshPacket). bytes (mesh_text p)) refused r) out))
  by (Mesh p) s = no_refusal_is_0.of_bytes (mesh_text p) out
  by (NoMesh n) s = s

sealed_numbered : (k : List ℕ) (l : Lent) (ns out : List ℕ) → Numbered (mesh_says (numbers_sealed k l ns out))
unfolding numbers_sealed
sealed_numbered k l ns out = by (mesh_from ns (pos 0) (pos 0)) (mesh_numbered ns (pos 0) (pos 0)) where
  by : (r : MeshRead) → Numbered (mesh_says r) → Numbered (mesh_says (if_mesh (λ (p : MeshPacket). mesh_sealed k l p p.payload out) NoMesh r))
  by (Mesh p) s = no_refusal_is_0.mesh_encrypt k l p p.payload out
  by (NoMesh n) s = s

module _ (E : List ℕ → List ℕ) (l : Lent) (ns : List ℕ) (rssi snr : ℤ) where
  signed_numbered : Numbered (mesh_says (numbers_signed E l ns rssi snr))
  unfolding numbers_signed
  signed_numbered = by (mesh_from ns rssi snr) (mesh_numbered ns rssi snr) where
    by : (r : MeshRead) → Numbered (mesh_says r) → Numbered (mesh_says (if_mesh (set_mic E l) NoMesh r))
    by (Mesh p) s = no_refusal_is_0.set_mic_lem E l p
    by (NoMesh n) s = s

  valid_numbered : Numbered (valid_says (numbers_valid E l ns rssi snr))
  unfolding numbers_valid
  valid_numbered = by (mesh_from ns rssi snr) (mesh_numbered ns rssi snr) where
    by : (r : MeshRead) → Numbered (mesh_says r) → Numbered (valid_says (if_mesh (validate_mic E l) NotValidated r))
    by (Mesh p) s = no_refusal_is_0.validate_mic_lem E l p
    by (NoMesh n) s = s

module _ (ns frame work : List ℕ) where
  decrypted_numbered : (k : List ℕ) → Numbered (mesh_opened_says (numbers_decrypted k ns frame work))
  unfolding numbers_decrypted
  decrypted_numbered k = by (mesh_from ns (pos 0) (pos 0)) (mesh_numbered ns (pos 0) (pos 0)) where
    by : (r : MeshRead) → Numbered (mesh_says r) → Numbered (mesh_opened_says (if_mesh (λ (p : MeshPacket). mesh_decrypted k p p.payload frame work) NotOpened r))
    by (Mesh p) s = no_refusal_is_0.mesh_decrypt k p p.payload frame work
    by (NoMesh n) s = s

  decoded_numbered : Numbered (mesh_opened_says (numbers_decoded ns frame work))
  unfolding numbers_decoded
  decoded_numbered = by (mesh_from ns (pos 0) (pos 0)) (mesh_numbered ns (pos 0) (pos 0)) where
    by : (r : MeshRead) → Numbered (mesh_says r) → Numbered (mesh_opened_says (if_mesh (λ (p : MeshPacket). mesh_decoded p p.payload frame work) NotOpened r))
    by (Mesh p) s = no_refusal_is_0.mesh_decode p p.payload frame work
    by (NoMesh n) s = s

added_numbered : (w rs : List ℕ) → Numbered (add_says (cache_answer w rs))
unfolding cache_answer
added_numbered w rs = picked add_says (record_wide rs) _ _ (omega arith) (by (type_read (get_or rs 0 0)) (type_numbered (get_or rs 0 0))) where
  by : (t : TypeRead) → Numbered (type_says t) → Numbered (add_says (answer_by w rs t))
  by (Kind t) s = no_refusal_is_0.words_add w (record_from rs t)
  by (NoKind n) s = s

-- the exported calls whose answers are not those of `NoZero` as they stand
pub record NoZeroForC : Type 0 where
  pub mesh_header_write : (hops n : ℕ) → Numbered (byte_says (header_byte_by hops (type_read n)))
  pub mesh_read_body : (b : List ℕ) (n : ℕ) → Numbered (mesh_says (bare_by b (type_read n)))
  pub mesh_write : (l : Lent) (ns : List ℕ) (rssi snr : ℤ) (out : List ℕ) → Numbered (written_says (answer_of (numbers_frame l ns rssi snr) out))
  pub mesh_write_body : (l : Lent) (ns : List ℕ) (rssi snr : ℤ) (out : List ℕ) → Numbered (written_says (answer_of (numbers_body l ns rssi snr) out))
  pub mesh_sign : (E : List ℕ → List ℕ) (l : Lent) (ns : List ℕ) (rssi snr : ℤ) → Numbered (mesh_says (numbers_signed E l ns rssi snr))
  pub mesh_validate : (E : List ℕ → List ℕ) (l : Lent) (ns : List ℕ) (rssi snr : ℤ) → Numbered (valid_says (numbers_valid E l ns rssi snr))
  pub mesh_seal : (k : List ℕ) (l : Lent) (ns out : List ℕ) → Numbered (mesh_says (numbers_sealed k l ns out))
  pub mesh_decrypt : (k ns frame work : List ℕ) → Numbered (mesh_opened_says (numbers_decrypted k ns frame work))
  pub mesh_decode : (ns frame work : List ℕ) → Numbered (mesh_opened_says (numbers_decoded ns frame work))
  pub mesh_record : (ns : List ℕ) → Numbered (mesh_says (mesh_from ns (pos 0) (pos 0)))
  pub mesh_text_lem : (ns out : List ℕ) → Numbered (written_says (answer_of (numbers_text ns) out))
  pub mesh_cache_add : (w rs : List ℕ) → Numbered (add_says (cache_answer w rs))

pub no_refusal_is_0_for_c : NoZeroForC
no_refusal_is_0_for_c =
    record {
      mesh_header_write = λ hops n. header_numbered hops (type_read n) (type_numbered n);
      mesh_read_body = λ b n. bare_numbered b (type_read n) (type_numbered n);
      mesh_write = written_numbered;
      mesh_write_body = body_numbered;
      mesh_sign = signed_numbered;
      mesh_validate = valid_numbered;
      mesh_seal = sealed_numbered;
      mesh_decrypt = λ k ns frame work. decrypted_numbered ns frame work k;
      mesh_decode = decoded_numbered;
      mesh_record = λ ns. mesh_numbered ns (pos 0) (pos 0);
      mesh_text_lem = text_numbered;
      mesh_cache_add = added_numbered;
    }

-- 29 of numbers that are no packet, before all else that they say: a MIC, relay id or timestamp over 32 bits, an uplink id over 16 and a
-- channel over 8, whatever the kind, and a content that is none, of an event or a command
pub wide_refused : (ns : List ℕ) (rssi snr : ℤ) → too_wide ns ≡ true
    → (mesh_says (mesh_from ns rssi snr) ≡ number type_large) × (packet_says (packet_from ns rssi snr) ≡ number type_large)
unfolding mesh_from packet_from
wide_refused ns rssi snr h = (simp h, simp h)

-- so a relay id is never taken by its low half
pub relay_id_whole : (ns : List ℕ) (rssi snr : ℤ) → relay_id_most < get_or ns 5 0 → packet_says (packet_from ns rssi snr) ≡ number type_large
unfolding too_wide
relay_id_whole ns rssi snr h = (wide_refused ns rssi snr (by (ltb mic_most (get_or ns 4 0)))).1 where
  by : (t : Bool) → pick t true (pick (ltb relay_id_most (get_or ns 5 0)) true (pick (ltb 65535 (get_or ns 6 0)) true (pick (ltb channel_most (get_or ns 8 0)) true (ltb timestamp_most (get_or ns 12 0))))) ≡ true
  by true = refl
  by false = simp (lt-ltb relay_id_most (get_or ns 5 0) h)

strange_mesh : (ns : List ℕ) (rssi snr : ℤ) → 1 < get_or ns 0 0 → 4 < get_or ns 13 0 → mesh_says (mesh_from ns rssi snr) ≡ number type_large
unfolding mesh_from strange_content
strange_mesh ns rssi snr k b = by (too_wide ns) where
  by : (t : Bool) → mesh_says (pick t (NoMesh type_large) (pick (strange_content ns) (NoMesh type_large) (kind_by ns rssi snr (type_read (get_or ns 0 0))))) ≡ number type_large
  by true = refl
  by false = simp (le-ltb (get_or ns 0 0) 2 k, lt-ltb 4 (get_or ns 13 0) b)

of_mesh_lem : (r : MeshRead) → mesh_says r ≡ number type_large → packet_says (of_mesh r) ≡ number type_large
of_mesh_lem (Mesh p) e = absurd (let z : ◌≡◌ {A = ℕ} 0 1 = cc in omega arith)
of_mesh_lem (NoMesh n) e = cc

strange_packet : (ns : List ℕ) (rssi snr : ℤ) → (get_or ns 0 0 ≡ 4 → ⊥) → mesh_says (mesh_from ns rssi snr) ≡ number type_large
    → packet_says (packet_from ns rssi snr) ≡ number type_large
unfolding packet_from
strange_packet ns rssi snr n m = by (too_wide ns) where
  by : (t : Bool)
      → packet_says (pick t (packet.Refused type_large) (pick (eqb (get_or ns 0 0) 4) (packet.Packet (Lora (run_from ns))) (of_mesh (mesh_from ns rssi snr)))) ≡ number type_large
  by true = refl
  by false = simp (ne_eqb (get_or ns 0 0) 4 n) (of_mesh_lem (mesh_from ns rssi snr) m)

pub strange_content_refused : (ns : List ℕ) (rssi snr : ℤ) → 1 < get_or ns 0 0 → 4 < get_or ns 13 0
    → (mesh_says (mesh_from ns rssi snr) ≡ number type_large) × ((get_or ns 0 0 ≡ 4 → ⊥) → packet_says (packet_from ns rssi snr) ≡ number type_large)
strange_content_refused ns rssi snr k b = (strange_mesh ns rssi snr k b, λ n. strange_packet ns rssi snr n (strange_mesh ns rssi snr k b))

-- so each of the three ways in which the face gives its number is 0 exactly if the call accepted
pub zero_is_success : {A : Type 0} (a : Answer A) → Numbered a → (number_in a ≡ 0 → Accepts a) × (Accepts a → number_in a ≡ 0)
zero_is_success a s = (zero_accepts a s, accepts_zero a)

pub zero_is_checked : {A : Type 0} (c : Checked) (a : A) → Numbered (checked_says c a) → (checked_number c ≡ 0 → Accepts (checked_says c a)) × (Accepts (checked_says c a) → checked_number c ≡ 0)
zero_is_checked checked.Accepted a s = (λ e. (a, refl), λ x. refl)
zero_is_checked (checked.Refused n) a s = zero_is_success (number n) s

pub zero_is_opened : {A : Type 0} (a : Answer (Told A)) → Numbered a
    → (opened_number a ≡ 0 → (v : A) × (o : Opening) × (a ≡ value (told v o))) × ((v : A) (o : Opening) → a ≡ value (told v o) → opened_number a ≡ 0)
zero_is_opened (value (told v o)) s = (λ e. (v, o, refl), λ w k e. refl)
zero_is_opened (value was_open) s = (λ e. absurd (omega arith), λ w k e. let z : ◌≡◌ {A = ℕ} 0 1 = cc in absurd (omega arith))
zero_is_opened (number n) s = (λ e. absurd (omega arith), λ w k e. let z : ◌≡◌ {A = ℕ} 0 1 = cc in absurd (omega arith))

-- 6.7: any number of odd bits is taken, and writes the same
module _ (l : Lent) (ns : List ℕ) (n : ℕ) (rssi snr : ℤ) where
  abbrev other : List ℕ
  other = set ns 16 n

  at : (i : ℕ) → (i ≡ 16 → ⊥) → get_or other i 0 ≡ get_or ns i 0
  at i h = get_or-set_other ns 16 i n 0 h

  run_same : run_from other ≡ run_from ns
  run_same = rw (at 14 (λ e. omega arith), at 15 (λ e. omega arith)) refl

  wide_same : too_wide other ≡ too_wide ns
  unfolding too_wide
  wide_same = rw (at 4 (λ e. omega arith), at 5 (λ e. omega arith), at 6 (λ e. omega arith), at 8 (λ e. omega arith), at 12 (λ e. omega arith)) refl

  strange_same : strange_content other ≡ strange_content ns
  unfolding strange_content
  strange_same = rw (at 0 (λ e. omega arith), at 13 (λ e. omega arith)) refl

  content_same : content_from other ≡ content_from ns
  unfolding content_from
  content_same = rw (at 13 (λ e. omega arith), at 14 (λ e. omega arith), at 15 (λ e. omega arith)) refl

  payload_same : (k : PayloadType) → even_payload (payload_from other rssi snr k) ≡ even_payload (payload_from ns rssi snr k)
  payload_same type.Uplink = rw (at 5 (λ e. omega arith), at 6 (λ e. omega arith), at 7 (λ e. omega arith), at 8 (λ e. omega arith), run_same) refl
  payload_same type.Downlink =
      rw (at 5 (λ e. omega arith), at 6 (λ e. omega arith), at 7 (λ e. omega arith), at 9 (λ e. omega arith), at 10 (λ e. omega arith), at 11 (λ e. omega arith), run_same) refl
  payload_same type.Event = rw (at 5 (λ e. omega arith), at 12 (λ e. omega arith), content_same) refl
  payload_same type.Command = rw (at 5 (λ e. omega arith), at 12 (λ e. omega arith), content_same) refl

  abbrev sent : PacketRead → Writing
  sent = if_packet (packet_frame l) refused

  abbrev made : List ℕ → PayloadType → PayloadType → MeshPacket
  made ms k t = record {
    mhdr = record { payload_type = t; hop_count = at_most 255 (get_or ms 2 0) };
    payload = payload_from ms rssi snr k;
    has_mic = not (eqb (get_or ms 3 0) 0);
    mic = at_most 4294967295 (get_or ms 4 0);
  }

  made_same : (k t : PayloadType) → even_mesh (made other k t) ≡ even_mesh (made ns k t)
  made_same k t = rw (at 2 (λ e. omega arith), at 3 (λ e. omega arith), at 4 (λ e. omega arith), payload_same k) refl

  typed_same : (k : PayloadType) (t : TypeRead) → sent (of_mesh (typed_by other rssi snr k t)) ≡ sent (of_mesh (typed_by ns rssi snr k t))
  unfolding packet_frame
  typed_same k (NoKind i) = refl
  typed_same k (Kind t) = sym (even_written l (made other k t)) ∙ ap (mesh_frame l) (made_same k t) ∙ even_written l (made ns k t)

  kind_same : (t : TypeRead) → sent (of_mesh (kind_by other rssi snr t)) ≡ sent (of_mesh (kind_by ns rssi snr t))
  kind_same (NoKind i) = refl
  kind_same (Kind k) =
      ap (λ (i : ℕ). sent (of_mesh (typed_by other rssi snr k (type_read i)))) (at 1 (λ e. omega arith)) ∙ typed_same k (type_read (get_or ns 1 0))

  mesh_same : sent (of_mesh (mesh_from other rssi snr)) ≡ sent (of_mesh (mesh_from ns rssi snr))
  unfolding mesh_from
  mesh_same = rw (wide_same, strange_same, at 0 (λ e. omega arith)) (by (too_wide ns) (strange_content ns))
    where
      by : (a b : Bool)
          → sent (of_mesh (pick a (NoMesh type_large) (pick b (NoMesh type_large) (kind_by other rssi snr (type_read (get_or ns 0 0))))))
          ≡ sent (of_mesh (pick a (NoMesh type_large) (pick b (NoMesh type_large) (kind_by ns rssi snr (type_read (get_or ns 0 0))))))
      by true b = refl
      by false true = refl
      by false false = kind_same (type_read (get_or ns 0 0))

  pub any_odd_bits_are_taken : numbers_frame l (set ns 16 n) rssi snr ≡ numbers_frame l ns rssi snr
  unfolding numbers_frame packet_from packet_frame
  any_odd_bits_are_taken = rw (wide_same, at 0 (λ e. omega arith), run_same) (by (too_wide ns) (eqb (get_or ns 0 0) 4))
    where
      by : (a b : Bool)
          → sent (pick a (packet.Refused type_large) (pick b (packet.Packet (Lora (run_from ns))) (of_mesh (mesh_from other rssi snr))))
          ≡ sent (pick a (packet.Refused type_large) (pick b (packet.Packet (Lora (run_from ns))) (of_mesh (mesh_from ns rssi snr))))
      by true b = refl
      by false true = refl
      by false false = mesh_same
