-- The hop edit's promises: `edited s e` is what the edit e of the buffer s answers, and `after s e` what it leaves there. Assumes nothing.
use Prim.Native.Nat.{ℕ, ◌+◌, ◌-◌, ◌*◌, ◌≤◌, ◌<◌}
use native.Mathlib.Omega.{arith}
use mathlib.Core.Bool.{false}
use mathlib.Core.Path.{◌≡◌, refl, sym, ap, ap₂, ◌∙◌}
use mathlib.Core.List.{List, foldl}
use mathlib.Core.Option.{none}
use lib.ListN.{length}
use borrow.Author.Tests.{lt-ltb, le-ltb}
use Rattle.base.specs.Numbers.{hops_none, hops_many}
use Rattle.base.specs.Lists.{Bytes}
use Rattle.base.specs.Answers.{Writing, bytes, refused}
use Rattle.wire.specs.Run.{run_bytes}
use Rattle.fips197.specs.Aes.{aes}
use Rattle.fields.specs.Header.{code_of, header_byte}
use Rattle.fields.specs.declared.header.HeaderByte.TheVariants.{Byte}
use Rattle.fields.specs.declared.header.PayloadType.{PayloadType}
use Rattle.packets.specs.Read.{body_in, mesh_of, even_payload, even_mesh}
use Rattle.packets.specs.Write.{mesh_frame}
use Rattle.packets.specs.declared.mesh.Payload.{Payload}
use Rattle.packets.specs.declared.mesh.Payload.TheVariants.{Uplink, Downlink, Event, Command}
use Rattle.packets.specs.declared.mesh.MeshPacket.{MeshPacket}
use Rattle.packets.specs.declared.mesh.MeshRead.TheVariants.{Mesh, Refused}
use Rattle.sealing.specs.Mesh.{mesh_decrypted, mesh_work, mesh_decoded}
use Rattle.cache.specs.Cache.{record_by, record_of}
use Rattle.mic.specs.Mic.{set_mic, validate_mic}
use Rattle.mic.specs.declared.Validated.TheVariants.{Valid}
use Rattle.hops.specs.Hops.{alone, carrying_count, leaves}
use Rattle.hops.proofs.Laws.{edit_unread, edit_uncounted}
use Rattle.demand.specs.Demand.{bit_of, may_differ, Edit, edited, after, last_accepted, after_only, opened_under, bytes_in, pieces_in, decrypted, decoded}
use Rattle.demand.proofs.Edited.{run_in, Lies, found, new_frame, new_packet, edit_gives, sign_gives, write_gives, read_gives, new_long, new_valid, new_run}
use Rattle.demand.proofs.Bits.{same_bit}
use Rattle.demand.proofs.Items as items
use Rattle.demand.proofs.Several.{from_one}

-- ---- a. What reading, setting the count, signing and writing afresh gives; and the first refusal of these, which leaves the buffer.

-- the packet is signed, and written that is what the edit answers and leaves; the buffer then reads as that packet without odd bits
pub record Afresh (s : List ℕ) (p : MeshPacket) (e : Edit) : Type 0 where
  pub packet : MeshPacket
  pub signed : set_mic (aes e.key) (alone s) (carrying_count p e.count) ≡ Mesh packet
  pub written : mesh_frame (alone s) packet ≡ bytes (after s e)
  pub answer : edited s e ≡ bytes (after s e)
  pub read : mesh_of (after s e) ≡ Mesh (even_mesh packet)

-- the duplicate record does not look at the odd bits
even_record : (t : PayloadType) (q : Payload) → record_by t (even_payload q) ≡ record_by t q
even_record t (Uplink u) = refl
even_record t (Downlink u) = refl
even_record t (Event u) = refl
even_record t (Command u) = refl

module _ (s : List ℕ) (e : Edit) where
  pub unread : (n : ℕ) → mesh_of s ≡ Refused n → edited s e ≡ refused n
  unread n h = edit_unread (aes e.key) s n e.count h

  pub count_none : (p : MeshPacket) → mesh_of s ≡ Mesh p → e.count ≡ 0 → edited s e ≡ refused hops_none
  unfolding header_byte
  count_none p h z =
      let k : e.count < 1 = omega arith in
      edit_uncounted (aes e.key) s p hops_none e.count h (simp (lt-ltb e.count 1 k))

  pub count_many : (p : MeshPacket) → mesh_of s ≡ Mesh p → 8 < e.count → edited s e ≡ refused hops_many
  unfolding header_byte
  count_many p h l =
      let k : 1 ≤ e.count = omega arith in
      edit_uncounted (aes e.key) s p hops_many e.count h (simp (le-ltb e.count 1 k, lt-ltb 8 e.count l))

  pub left : (n : ℕ) → edited s e ≡ refused n → after s e ≡ s
  left n h = ap (λ (f : Writing). leaves f s) h

module _ (s : List ℕ) (p : MeshPacket) (small : Bytes s) (read : mesh_of s ≡ Mesh p) (e : Edit) (least : 1 ≤ e.count) (most : e.count ≤ 8) where
  -- the new header byte, frame and packet, which the proofs speak of
  abbrev v : ℕ
  v = 224 + code_of p.mhdr.payload_type * 8 + (e.count - 1)

  byte : header_byte (carrying_count p e.count).mhdr ≡ Byte v
  unfolding header_byte
  byte = simp (le-ltb e.count 1 least, le-ltb 8 e.count most)

  abbrev W : List ℕ
  W = new_frame s p small read e v byte

  abbrev Q : MeshPacket
  Q = new_packet s p small read e v byte

  answers : edited s e ≡ bytes W
  answers = edit_gives s p small read e v byte

  is : after s e ≡ W
  is = ap (λ (f : Writing). leaves f s) answers

  holds : mesh_of (after s e) ≡ Mesh (even_mesh Q)
  holds = ap mesh_of is ∙ read_gives s p small read e v byte

  pub afresh : Afresh s p e
  afresh =
      record {
        packet = Q;
        signed = sign_gives s p small read e v byte;
        written = write_gives s p small read e v byte ∙ ap bytes (sym is);
        answer = answers ∙ ap bytes (sym is);
        read = holds;
      }

  -- ---- b. As long as before, and no bit differs but the count's, the MIC's and an uplink's odd ones.

  pub same_length : length (after s e) ≡ length s
  same_length = ap length is ∙ new_long s p small read e v byte

  pub few_bits : (j i : ℕ) → may_differ s j i ≡ false → bit_of (after s e) j i ≡ bit_of s j i
  few_bits j i h = ap (λ (x : List ℕ). bit_of x j i) is ∙ same_bit s p small read e v byte j i h

  -- the packet that is then read
  module _ (r : MeshPacket) (again : mesh_of (after s e) ≡ Mesh r) where
    r_is : r ≡ even_mesh Q
    r_is = let h : Mesh r ≡ Mesh (even_mesh Q) = sym again ∙ holds in cc

    -- ---- c. It validates.

    pub validates : validate_mic (aes e.key) (alone (after s e)) r ≡ Valid
    validates = ap₂ (λ (x : List ℕ) (y : MeshPacket). validate_mic (aes e.key) (alone x) y) is r_is ∙ new_valid s p small read e v byte

    -- ---- d. It keeps the duplicate record.

    pub same_record_lem : record_of r ≡ record_of p
    unfolding record_of
    same_record_lem = ap record_of r_is ∙ even_record p.mhdr.payload_type p.payload

    -- ---- e. It keeps the payload, but for the odd bits, and opens to the same items, under every key, with every work buffer.

    pub same_payload : r.payload ≡ even_payload p.payload
    same_payload = ap (λ (y : MeshPacket). y.payload) r_is

    lies : Lies (body_in s) p.payload
    lies = found s p small read

    run : run_bytes (after s e) (run_in (body_in s)) ≡ run_bytes s (run_in (body_in s))
    run = ap (λ (x : List ℕ). run_bytes x (run_in (body_in s))) is ∙ new_run s p small read e v byte

    module _ (work : List ℕ) where
      -- the payload's bytes as they were received
      pub same_bytes : bytes_in r.payload (after s e) work ≡ bytes_in p.payload s work
      same_bytes = items.sealed_bytes s (after s e) (body_in s) same_length run p r same_payload lies work

      -- `decode`: what it answers but for header and MIC, and the bytes and items it opens to
      pub same_decoded : mesh_decoded r r.payload (after s e) work ≡ opened_under r (mesh_decoded p p.payload s work)
      same_decoded = items.same_decoded s (after s e) (body_in s) same_length run p r same_payload lies work

      pub decoded_bytes : decoded bytes_in r (after s e) work ≡ decoded bytes_in p s work
      decoded_bytes = items.decoded_bytes s (after s e) (body_in s) same_length run p r same_payload lies work

      pub decoded_items : decoded pieces_in r (after s e) work ≡ decoded pieces_in p s work
      decoded_items = items.decoded_items s (after s e) (body_in s) same_length run p r same_payload lies work

      -- `decrypt`: the same, and the work buffer
      module _ (key : List ℕ) where
        pub same_decrypted : mesh_decrypted key r r.payload (after s e) work ≡ opened_under r (mesh_decrypted key p p.payload s work)
        same_decrypted = items.same_decrypted s (after s e) (body_in s) same_length run p r same_payload lies key work

        pub same_work : mesh_work key r.payload (after s e) work ≡ mesh_work key p.payload s work
        same_work = items.same_work s (after s e) (body_in s) same_length run p r same_payload lies key work

        pub decrypted_bytes : decrypted bytes_in key r (after s e) work ≡ decrypted bytes_in key p s work
        decrypted_bytes = items.decrypted_bytes s (after s e) (body_in s) same_length run p r same_payload lies key work

        pub decrypted_items : decrypted pieces_in key r (after s e) work ≡ decrypted pieces_in key p s work
        decrypted_items = items.decrypted_items s (after s e) (body_in s) same_length run p r same_payload lies key work

-- ---- f. Several edits leave what the last accepted one alone leaves, and nothing changes where none was accepted.

pub several : (s : List ℕ) → Bytes s → (es : List Edit) → foldl after s es ≡ after_only s (last_accepted s none es)
several s small es = from_one s small es none
