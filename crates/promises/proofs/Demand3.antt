-- Demand 3, the hop edit in the received buffer: for every frame that the mesh reader accepts, each count 1 to 8 and each signing key.
-- Assumes nothing.
use Prim.Native.Nat.{ℕ, ◌≤◌, ◌<◌}
use mathlib.Core.Bool.{true, false}
use mathlib.Core.Option.{none}
use mathlib.Core.Path.{◌≡◌, refl, ap}
use mathlib.Core.List.{List, foldl}
use lib.ListN.{length}
use Rattle.base.specs.Lists.{Bytes}
use Rattle.base.specs.Numbers.{hops_none, hops_many}
use Rattle.base.specs.Answers.{Answer, value, number, Writing, bytes, refused, checked_of, checked_says}
use Rattle.fips197.specs.Aes.{aes}
use Rattle.packets.specs.Read.{mesh_of, mesh_says, even_mesh}
use Rattle.packets.specs.Write.{mesh_frame}
use Rattle.packets.specs.declared.mesh.MeshPacket.{MeshPacket}
use Rattle.sealing.specs.Mesh.{mesh_decrypted, mesh_work, mesh_decoded, mesh_opened_says}
use Rattle.mic.specs.Mic.{set_mic, validate_mic, valid_says}
use Rattle.cache.specs.Cache.{record_of}
use Rattle.hops.specs.Hops.{alone, carrying_count}
use Rattle.demand.specs.Demand.{bit_of, may_differ, Edit, edited, after, last_accepted, after_only, opened_under, pieces_in, decrypted, decoded}
use Rattle.demand.proofs.Demand as demand
use Rattle.promises.proofs.Said.{mesh_said, mesh_refused}

-- what an accepted edit `e` of the frame `s`, which was read as `p`, leaves; `signed` is the packet signed afresh, and `packet` what the buffer is
-- read as from now on
pub record Edited (s : List ℕ) (p : MeshPacket) (e : Edit) (signed packet : MeshPacket) : Type 0 where
  -- exactly what reading, setting the count, signing and writing afresh gives
  pub signed_afresh : mesh_says (set_mic (aes e.key) (alone s) (carrying_count p e.count)) ≡ value signed
  pub written_afresh : mesh_frame (alone s) signed ≡ bytes (after s e)
  pub answers : checked_says (checked_of (edited s e)) (after s e) ≡ value (after s e)
  pub reads : mesh_says (mesh_of (after s e)) ≡ value packet
  pub odd_dropped : packet ≡ even_mesh signed
  -- only the first byte's low three bits, the last four bytes and, in an uplink, the top two bits of byte 4 differ
  pub length_kept : length (after s e) ≡ length s
  pub bits_kept : (j i : ℕ) → may_differ s j i ≡ false → bit_of (after s e) j i ≡ bit_of s j i
  -- it validates under that key
  pub valid : valid_says (validate_mic (aes e.key) (alone (after s e)) packet) ≡ value true
  -- it gives the same duplicate record
  pub record_kept : record_of packet ≡ record_of p
  -- it opens to the same items, kept, skipped and cut alike, under every encryption key and with every work buffer
  pub decrypts : (key work : List ℕ) → mesh_opened_says (mesh_decrypted key packet packet.payload (after s e) work) ≡ mesh_opened_says (opened_under packet (mesh_decrypted key p p.payload s work))
  pub work_same : (key work : List ℕ) → mesh_work key packet.payload (after s e) work ≡ mesh_work key p.payload s work
  pub items_decrypted : (key work : List ℕ) → decrypted pieces_in key packet (after s e) work ≡ decrypted pieces_in key p s work
  pub decodes : (work : List ℕ) → mesh_opened_says (mesh_decoded packet packet.payload (after s e) work) ≡ mesh_opened_says (opened_under packet (mesh_decoded p p.payload s work))
  pub items_decoded : (work : List ℕ) → decoded pieces_in packet (after s e) work ≡ decoded pieces_in p s work

-- every edit with a count from 1 to 8 of a frame that is read
pub edit_is_afresh : (s : List ℕ) (p : MeshPacket) (e : Edit) → Bytes s → mesh_says (mesh_of s) ≡ value p → 1 ≤ e.count → e.count ≤ 8 → (signed packet : MeshPacket) × Edited s p e signed packet
edit_is_afresh s p e small said least most =
    let read = mesh_said (mesh_of s) p said in
    let a = demand.afresh s p small read e least most in
    let q = even_mesh a.packet in
    let r = a.read in (
      a.packet,
      q,
      record {
        signed_afresh = ap mesh_says a.signed;
        written_afresh = a.written;
        answers = ap {B = Answer (List ℕ)} (λ (f : Writing). checked_says (checked_of f) (after s e)) a.answer;
        reads = ap mesh_says r;
        odd_dropped = refl;
        length_kept = demand.same_length s p small read e least most;
        bits_kept = demand.few_bits s p small read e least most;
        valid = ap valid_says (demand.validates s p small read e least most q r);
        record_kept = demand.same_record_lem s p small read e least most q r;
        decrypts = λ key work. ap mesh_opened_says (demand.same_decrypted s p small read e least most q r work key);
        work_same = λ key work. demand.same_work s p small read e least most q r work key;
        items_decrypted = λ key work. demand.decrypted_items s p small read e least most q r work key;
        decodes = λ work. ap mesh_opened_says (demand.same_decoded s p small read e least most q r work);
        items_decoded = λ work. demand.decoded_items s p small read e least most q r work;
      },
    )

-- 4.16: any other edit is refused with the reader's number, or with the count's
module _ (s : List ℕ) (e : Edit) where
  abbrev says : Answer (List ℕ)
  says = checked_says (checked_of (edited s e)) (after s e)

  told : (n : ℕ) → edited s e ≡ refused n → says ≡ number n
  told n h = ap {B = Answer (List ℕ)} (λ (f : Writing). checked_says (checked_of f) (after s e)) h

  pub unread_frame : (n : ℕ) → mesh_says (mesh_of s) ≡ number n → says ≡ number n
  unread_frame n h = told n (demand.unread s e n (mesh_refused (mesh_of s) n h))

  pub no_hops : (p : MeshPacket) → mesh_says (mesh_of s) ≡ value p → e.count ≡ 0 → says ≡ number hops_none
  no_hops p h z = told hops_none (demand.count_none s e p (mesh_said (mesh_of s) p h) z)

  pub many_hops : (p : MeshPacket) → mesh_says (mesh_of s) ≡ value p → 8 < e.count → says ≡ number hops_many
  many_hops p h l = told hops_many (demand.count_many s e p (mesh_said (mesh_of s) p h) l)

-- several edits, with whatever counts and keys, refused ones among them, equal the last accepted one alone
pub several_edits : (s : List ℕ) → Bytes s → (es : List Edit) → foldl after s es ≡ after_only s (last_accepted s none es)
several_edits = demand.several
