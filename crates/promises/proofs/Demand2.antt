-- Demand 2, over the definitions that every contract is an equation with: which frames are read and which number the others get; what is
-- read and written again, and written and read back; AES-128 and CMAC as the standards have them; sealing; items; the cache. Assumes
-- nothing.
use Prim.Native.Nat.{ℕ, suc, ◌+◌, ◌/◌, ◌≤◌, ◌<◌}
use mathlib.Core.Bool.{Bool, true, false}
use mathlib.Core.Path.{◌≡◌, refl, sym, ap, ◌∙◌}
use mathlib.Core.List.{List, [], ◌++◌, foldl, flatten, map}
use lib.Dec.{ltb, eqb}
use lib.ListN.{length, get_or}
use Rattle.base.specs.Lists.{Bytes}
use Rattle.base.specs.Blocks.{Block}
use Rattle.base.specs.Numbers.{frame_most}
use Rattle.base.specs.Answers.{value, number, bytes, number_in}
use Rattle.wire.specs.Run.{run_bytes, run_at}
use Rattle.wire.specs.declared.run.Run.{Run}
use Rattle.fips197.specs.Aes.{aes}
use Rattle.cipher.specs.inner.Words.{prepared, enciphered}
use Rattle.cipher.proofs.Laws.{prepared_agrees}
use Rattle.cmac_chain.specs.Cmac.{tag}
use Rattle.cmac_chain.specs.inner.State.{begun, absorb1, finished}
use Rattle.cmac_chain.proofs.Laws.{pieces, tag_same}
use Rattle.key_stream.specs.Stream.{stream_block, sealed_of}
use Rattle.key_stream.proofs.Laws.{block_1, block_256, repeats, seal_twice}
use Rattle.fields.specs.Meta.{even}
use Rattle.fields.specs.declared.header.PayloadType.TheVariants.{Uplink, Downlink, Event, Command}
use Rattle.items.specs.Items.{opening_of}
use Rattle.items.proofs.Laws.{bytes_sum}
use Rattle.composed_items.specs.Composed.{Lists}
use Rattle.contents.specs.Content.{Lent, content_of, content_bytes, framed}
use Rattle.links.specs.declared.uplink.UplinkPayload.{UplinkPayload}
use Rattle.links.specs.declared.downlink.DownlinkPayload.{DownlinkPayload}
use Rattle.events.specs.declared.stamped.EventPayload.{EventPayload}
use Rattle.events.specs.declared.stamped.CommandPayload.{CommandPayload}
use Rattle.packets.specs.Read.{mesh_of, packet_of, of_mesh, mesh_says, packet_says, carrying, odd_in, even_mesh}
use Rattle.packets.specs.Write.{mesh_frame, lora_frame, packet_frame}
use Rattle.packets.specs.declared.mesh.Payload.TheVariants as payload
use Rattle.packets.specs.declared.mesh.MeshPacket.{MeshPacket}
use Rattle.packets.specs.declared.mesh.MeshRead.{MeshRead}
use Rattle.packets.specs.declared.mesh.MeshRead.TheVariants.{Mesh, Refused}
use Rattle.packets.specs.declared.any.Packet.TheVariants.{Lora}
use Rattle.sealing.specs.Open.{decrypt_of, opened_by, opened_says}
use Rattle.sealing.specs.Seal.{event_seal, command_seal}
use Rattle.sealing.proofs.Laws as sealed
use Rattle.round_trips.specs.Which.{mesh_number, packet_number, cleared}
use Rattle.round_trips.proofs.Which.{which}
use Rattle.round_trips.proofs.Same.{again}
use Rattle.round_trips.proofs.Even.{frame_even, same_exactly}
use Rattle.round_trips.proofs.Back.{uplink_back, downlink_back, event_back, command_back, lora_back, lora_again}
use Rattle.cache.specs.Cache.{same_record, answers_last, add_says}
use Rattle.cache.specs.inner.Ring.{ring_answers, new_of}
use Rattle.cache.specs.declared.record.PayloadCache.{PayloadCache}
use Rattle.cache.proofs.Laws.{same_is, adds_list, last_added}
use Rattle.cache_words.specs.inner.Packed.{cleared_words, packed_answers, SmallIds}
use Rattle.cache_words.proofs.Laws.{packed_adds_list}
use Rattle.promises.specs.Said.{Accepts}
use Rattle.promises.proofs.Said.{mesh_said, packet_said}
use Rattle.promises.proofs.Refusals.{zero_accepts, accepts_zero, says_number, mesh_read, packet_read}

-- ---- reading

-- 4.1, each number exactly when section 3 says, by `mesh_number`; 0 where the frame is read
pub mesh_reader : (s : List ℕ) → number_in (mesh_says (mesh_of s)) ≡ mesh_number s
mesh_reader = which

-- and 0 exactly if it is; any other number is what the reader says
pub mesh_reader_reads : (s : List ℕ) → (mesh_number s ≡ 0 → Accepts (mesh_says (mesh_of s))) × (Accepts (mesh_says (mesh_of s)) → mesh_number s ≡ 0)
mesh_reader_reads s =
    (λ e. zero_accepts (mesh_says (mesh_of s)) (mesh_read s) (mesh_reader s ∙ e), λ a. sym (mesh_reader s) ∙ accepts_zero (mesh_says (mesh_of s)) a)

pub mesh_reader_refuses : (s : List ℕ) (n : ℕ) → mesh_number s ≡ suc n → mesh_says (mesh_of s) ≡ number (suc n)
mesh_reader_refuses s n e = says_number n (mesh_says (mesh_of s)) (mesh_reader s ∙ e)

-- 4.2: 1, 5, then 2 and 4 of a mesh frame
through : (r : MeshRead) → number_in (packet_says (of_mesh r)) ≡ number_in (mesh_says r)
through (Mesh p) = refl
through (Refused n) = refl

mesh_by : (s : List ℕ) → eqb (length s) 0 ≡ false → ltb frame_most (length s) ≡ false → eqb (get_or s 0 0 / 32) 7 ≡ true
    → number_in (packet_says (packet_of s)) ≡ packet_number s
unfolding packet_of packet_number
mesh_by s ea eb ec = simp (ea, eb, ec) (through (mesh_of s) ∙ which s)

packet_by : (s : List ℕ) (a b c : Bool) → eqb (length s) 0 ≡ a → ltb frame_most (length s) ≡ b → eqb (get_or s 0 0 / 32) 7 ≡ c
    → number_in (packet_says (packet_of s)) ≡ packet_number s
unfolding packet_of packet_number mesh_number
packet_by s true b true ea eb ec = simp (ea, ec)
packet_by s true b false ea eb ec = simp (ea, ec)
packet_by s false true true ea eb ec = simp (ea, eb, ec)
packet_by s false true false ea eb ec = simp (ea, eb, ec)
packet_by s false false true ea eb ec = mesh_by s ea eb ec
packet_by s false false false ea eb ec = simp (ea, eb, ec)

pub packet_reader : (s : List ℕ) → number_in (packet_says (packet_of s)) ≡ packet_number s
packet_reader s = packet_by s (eqb (length s) 0) (ltb frame_most (length s)) (eqb (get_or s 0 0 / 32) 7) refl refl refl

pub packet_reader_reads : (s : List ℕ) → (packet_number s ≡ 0 → Accepts (packet_says (packet_of s))) × (Accepts (packet_says (packet_of s)) → packet_number s ≡ 0)
packet_reader_reads s =
    (λ e. zero_accepts (packet_says (packet_of s)) (packet_read s) (packet_reader s ∙ e), λ a. sym (packet_reader s) ∙ accepts_zero (packet_says (packet_of s)) a)

pub packet_reader_refuses : (s : List ℕ) (n : ℕ) → packet_number s ≡ suc n → packet_says (packet_of s) ≡ number (suc n)
packet_reader_refuses s n e = says_number n (packet_says (packet_of s)) (packet_reader s ∙ e)

-- ---- reading and writing

-- what is read is written as the same bytes, but for an uplink's odd bits, whatever else is lent; a LoRa frame as the same bytes
pub read_then_written : (s : List ℕ) (x : Lists) (p : MeshPacket) → Bytes s → mesh_says (mesh_of s) ≡ value p → mesh_frame (framed s x) p ≡ bytes (cleared s)
read_then_written s x p b e = again s x p b (mesh_said (mesh_of s) p e)

-- 5.18: without its odd bits a frame is read as the same packet without them, and it is written again as it was exactly if there were none
pub read_but_for_odd_bits : (s : List ℕ) (p : MeshPacket) → Bytes s → mesh_says (mesh_of s) ≡ value p → mesh_says (mesh_of (cleared s)) ≡ value (even_mesh p)
read_but_for_odd_bits s p b e = ap mesh_says (frame_even s p b (mesh_said (mesh_of s) p e))

pub same_bytes_exactly_if_even : (s : List ℕ) (x : Lists) (p : MeshPacket) → Bytes s → mesh_says (mesh_of s) ≡ value p
    → (odd_in p.payload ≡ 0 → mesh_frame (framed s x) p ≡ bytes s) × (mesh_frame (framed s x) p ≡ bytes s → odd_in p.payload ≡ 0)
same_bytes_exactly_if_even s x p b e = same_exactly s p b (mesh_said (mesh_of s) p e) x

pub lora_read_then_written : (s : List ℕ) (x : Lists) (r : Run) → packet_says (packet_of s) ≡ value (Lora r) → packet_frame (framed s x) (Lora r) ≡ bytes s
unfolding packet_frame
lora_read_then_written s x r e = lora_again s r (packet_said (packet_of s) (Lora r) e)

-- what is written is read back without odd bits: a packet whose header's type is its payload's kind, with the run where it lies now
module _ (l : Lent) (w : List ℕ) (p : MeshPacket) (written : mesh_frame l p ≡ bytes w) (mic : p.mic < 4294967296) where
  pub uplink_written_then_read : (u : UplinkPayload) → p.payload ≡ payload.Uplink u → p.mhdr.payload_type ≡ Uplink → u.metadata.channel < 256 → u.relay_id < 4294967296
      → (mesh_says (mesh_of w) ≡ value (carrying p (payload.Uplink (record { metadata = even u.metadata; relay_id = u.relay_id; phy_payload = run_at 10 (length (run_bytes l.frame u.phy_payload)) }))))
      × (run_bytes w (run_at 10 (length (run_bytes l.frame u.phy_payload))) ≡ run_bytes l.frame u.phy_payload)
  uplink_written_then_read u k t c r = let b = uplink_back l w p written mic u k t c r in (ap mesh_says b.0, b.1)

  pub downlink_written_then_read : (u : DownlinkPayload) → p.payload ≡ payload.Downlink u → p.mhdr.payload_type ≡ Downlink → u.relay_id < 4294967296
      → (mesh_says (mesh_of w) ≡ value (carrying p (payload.Downlink (record { metadata = u.metadata; relay_id = u.relay_id; phy_payload = run_at 11 (length (run_bytes l.frame u.phy_payload)) }))))
      × (run_bytes w (run_at 11 (length (run_bytes l.frame u.phy_payload))) ≡ run_bytes l.frame u.phy_payload)
  downlink_written_then_read u k t r = let b = downlink_back l w p written mic u k t r in (ap mesh_says b.0, b.1)

  pub event_written_then_read : (u : EventPayload) → p.payload ≡ payload.Event u → p.mhdr.payload_type ≡ Event → u.timestamp < 4294967296 → u.relay_id < 4294967296
      → (mesh_says (mesh_of w) ≡ value (carrying p (payload.Event (record { timestamp = u.timestamp; relay_id = u.relay_id; events = content_of 9 (length (content_bytes true l u.events)) }))))
      × (run_bytes w (run_at 9 (length (content_bytes true l u.events))) ≡ content_bytes true l u.events)
  event_written_then_read u k t s r = let b = event_back l w p written mic u k t s r in (ap mesh_says b.0, b.1)

  pub command_written_then_read : (u : CommandPayload) → p.payload ≡ payload.Command u → p.mhdr.payload_type ≡ Command → u.timestamp < 4294967296 → u.relay_id < 4294967296
      → (mesh_says (mesh_of w) ≡ value (carrying p (payload.Command (record { timestamp = u.timestamp; relay_id = u.relay_id; commands = content_of 9 (length (content_bytes false l u.commands)) }))))
      × (run_bytes w (run_at 9 (length (content_bytes false l u.commands))) ≡ content_bytes false l u.commands)
  command_written_then_read u k t s r = let b = command_back l w p written mic u k t s r in (ap mesh_says b.0, b.1)

-- a LoRa frame, unless its first byte would make it a mesh frame
pub lora_written_then_read : (s w : List ℕ) (r : Run) → lora_frame s r ≡ bytes w → 1 ≤ length w → (get_or w 0 0 / 32 ≡ 7 → ⊥)
    → (packet_says (packet_of w) ≡ value (Lora (run_at 0 (length w)))) × (w ≡ run_bytes s r)
lora_written_then_read s w r e l h = let b = lora_back s w r e l h in (ap packet_says b.0, b.1)

-- ---- the cipher and the MIC

-- the cipher that is made ready once is FIPS 197's, for every key and block
pub cipher_is_fips197 : (key block : List ℕ) → Block key → Block block → enciphered (prepared key) block ≡ aes key block
cipher_is_fips197 key block k b = (prepared_agrees key k).same block b

-- a message in pieces, however it is split, has RFC 4493's tag
pub cmac_is_rfc4493 : (key : List ℕ) (ps : List (List ℕ)) → Block key → Bytes (flatten ps)
    → finished (enciphered (prepared key)) (foldl (foldl (absorb1 (enciphered (prepared key)))) begun ps) ≡ tag (aes key) (flatten ps)
cmac_is_rfc4493 key ps k h = pieces (enciphered (prepared key)) ps ∙ tag_same _ _ (prepared_agrees key k) (flatten ps) h

-- ---- sealing

-- 8.1, 8.2 (blocks are counted from 0 here)
pub key_blocks : (E : List ℕ → List ℕ) (A : ℕ → List ℕ)
    → (stream_block E A 0 ≡ E (A 1)) × (stream_block E A 255 ≡ E (A 0)) × ((i : ℕ) → stream_block E A (i + 256) ≡ stream_block E A i)
key_blocks E A = (block_1 E A, block_256 E A, repeats E A)

-- 8.4
pub sealed_twice : (key : List ℕ) (ev : Bool) (relay time : ℕ) (s w : List ℕ) → sealed_of key ev relay time s ≡ bytes w → sealed_of key ev relay time w ≡ bytes s
sealed_twice = seal_twice

-- what is sealed opens to what was sealed, under the same key, in a work buffer k
module _ (key : List ℕ) (l : Lent) (w rest : List ℕ) (x : Lists) (k : List ℕ) where
  pub event_sealed_then_opened : (u : EventPayload) → event_seal key l u ≡ bytes w
      → opened_says (decrypt_of key true u.relay_id u.timestamp (content_of 0 (length w)) (w ++ rest) k) ≡ opened_says (opened_by true (bytes (content_bytes true l u.events)) k)
  event_sealed_then_opened u e = ap opened_says (sealed.event_opened_lem key l w rest x u k e)

  pub command_sealed_then_opened : (u : CommandPayload) → command_seal key l u ≡ bytes w
      → opened_says (decrypt_of key false u.relay_id u.timestamp (content_of 0 (length w)) (w ++ rest) k) ≡ opened_says (opened_by false (bytes (content_bytes false l u.commands)) k)
  command_sealed_then_opened u e = ap opened_says (sealed.command_opened_lem key l w rest x u k e)

-- ---- items

-- 7.7
pub counts_sum : (ev : Bool) (s : List ℕ)
    → (opening_of ev s).kept_bytes + (opening_of ev s).skipped_bytes + (opening_of ev s).cut_bytes ≡ length s
unfolding opening_of
counts_sum ev s = bytes_sum ev s

-- ---- the cache

-- a record is the same where all four fields are, all four bytes of the relay id among them
pub same_record_lem : (a b : PayloadCache) → (same_record a b ≡ true → a ≡ b) × (a ≡ b → same_record a b ≡ true)
same_record_lem = same_is

-- 12.3, over every sequence of adds to a new cache
pub cache_answers : (n : ℕ) → 1 ≤ n → n ≤ 64 → (rs : List PayloadCache) → map add_says (ring_answers (new_of n).cache rs) ≡ map add_says (answers_last n [] rs)
cache_answers n h k rs = ap (map add_says) (adds_list n h k rs ∙ last_added n h rs)

-- the same of the cache in words, for records whose id fits in 16 bits
pub packed_cache_answers : (n : ℕ) → 1 ≤ n → n ≤ 64 → (rs : List PayloadCache) → SmallIds rs → map add_says (packed_answers (cleared_words n) rs) ≡ map add_says (answers_last n [] rs)
packed_cache_answers n h k rs f = ap (map add_says) (packed_adds_list n h k rs f ∙ last_added n h rs)
