-- What an accepted edit gives, in closed form: the new header byte, the body with an uplink's odd bits as 0, and the MIC over both;
-- and what is rewritten in the buffer is that. Assumes nothing.
use Prim.Native.Nat.{ℕ, zero, suc, ◌+◌, ◌-◌, ◌≤◌, ◌<◌}
use native.Mathlib.Omega.{arith}
use mathlib.Core.Bool.{Bool, true, false}
use mathlib.Core.Path.{◌≡◌, refl, sym, ap, ap₂, ◌∙◌}
use mathlib.Core.List.{List, [], ◌∷◌, ◌++◌, append-nil}
use lib.ListN.{length, get_or, take, set, length-set, drop_of_length-le}
use borrow.Author.Tests.{le-ltb, lt-ltb}
use Rattle.base.specs.Pick.{pick}
use Rattle.base.specs.Lists.{Bytes}
use Rattle.base.specs.Answers.{Writing, bytes, refused}
use Rattle.wire.specs.Number.{be_bytes}
use Rattle.wire.proofs.Laws.Number.{be_length}
use Rattle.wire.proofs.Laws.Lay.{put_fits}
use Rattle.fields.specs.Header.{header_byte}
use Rattle.fields.specs.declared.header.MHDR.{MHDR}
use Rattle.fields.specs.declared.header.PayloadType.{PayloadType}
use Rattle.fields.specs.declared.header.PayloadType.TheVariants.{Uplink, Downlink, Event, Command}
use Rattle.fields.specs.declared.header.HeaderByte.{HeaderByte}
use Rattle.fields.specs.declared.header.HeaderByte.TheVariants.{Byte, Refused as NoByte}
use Rattle.links.specs.Write.{with_mic}
use Rattle.composed_items.specs.Composed.{Lists}
use Rattle.packets.specs.Read.{body_in, mesh_of}
use Rattle.packets.specs.Write.{payload_wire, behind, message_of, mesh_frame}
use Rattle.packets.proofs.Laws.{message_alone}
use Rattle.packets.specs.declared.mesh.MeshPacket.{MeshPacket}
use Rattle.packets.specs.declared.mesh.MeshRead.TheVariants.{Mesh, Refused}
use Rattle.round_trips.proofs.Which.{body_length}
use Rattle.round_trips.proofs.Again.{was_read}
use Rattle.round_trips.proofs.Same.{body_bytes, cleared_of, body_again, cleared_length}
use Rattle.mic.specs.Mic.{mic_of, fitting, signed_of, carrying_mic, signed_by, set_mic}
use Rattle.hops.specs.Hops.{alone, carrying_count, written_of, signed_anew, hop_edit, leaves}
use Rattle.fields.specs.Signal.{even_byte, even_at}
use Rattle.hops.specs.inner.Steps.{is_uplink, renewed, mic_laid, rewritten}

-- a message, and the MIC over it
abbrev pub sealed_with : (List ℕ → List ℕ) → ℕ → List ℕ → List ℕ
sealed_with E b c = (b ∷ c) ++ be_bytes 4 (mic_of E (b ∷ c))

-- an element made anew from itself, in a front
take_anew : (n : ℕ) (s : List ℕ) (i : ℕ) (f : ℕ → ℕ) → take n (set s i (f (get_or s i 0))) ≡ set (take n s) i (f (get_or (take n s) i 0))
take_anew zero s i f = refl
take_anew (suc n) [] i f = refl
take_anew (suc n) (x ∷ s) zero f = refl
take_anew (suc n) (x ∷ s) (suc i) f = ap (λ (y : List ℕ). x ∷ y) (take_anew n s i f)

renewed_length : (b : ℕ) (up : Bool) (s : List ℕ) → length (renewed b up s) ≡ length s
unfolding renewed
renewed_length b true s = simp length-set
renewed_length b false s = simp length-set

-- a renewed frame, up to its MIC
front_by : (b x : ℕ) (s : List ℕ) (up : Bool) (n : ℕ) → take (suc n) (renewed b up (x ∷ s)) ≡ b ∷ pick up (even_at (take n s) 3) (take n s)
unfolding renewed
front_by b x s true n = take_anew (suc n) (b ∷ s) 4 even_byte
front_by b x s false n = refl

front : (s : List ℕ) (b : ℕ) (up : Bool) → 5 ≤ length s → take (length s - 4) (renewed b up s) ≡ b ∷ pick up (even_at (body_in s) 3) (body_in s)
front [] b up h = absurd (omega arith)
front (x ∷ s) b up h =
    let n = length (x ∷ s) - 4 - 1 in
    let e : length (x ∷ s) - 4 ≡ suc n = omega arith in
    ap (λ (k : ℕ). take k (renewed b up (x ∷ s))) e ∙ front_by b x s up n

-- a message and four bytes, signed in place
laid_is : (E : List ℕ → List ℕ) (end : ℕ) (s w : List ℕ) → length s ≡ end + 4 → take end s ≡ w → mic_laid E end s ≡ w ++ be_bytes 4 (mic_of E w)
unfolding mic_laid
laid_is E end s w l f =
    let v = be_bytes 4 (mic_of E (take end s)) in
    let n : length v ≡ 4 = be_length 4 (mic_of E (take end s)) in
    let h : end + length v ≤ length s = omega arith in
    let g : length s ≤ end + length v = omega arith in
    put_fits s end v h
    ∙ ap₂ (λ (x y : List ℕ). x ++ be_bytes 4 (mic_of E x) ++ y) f (drop_of_length-le s g)
    ∙ append-nil (w ++ be_bytes 4 (mic_of E w))

module _ (s : List ℕ) (p : MeshPacket) (small : Bytes s) (read : mesh_of s ≡ Mesh p) where
  -- nothing else is lent
  abbrev none : Lists
  none = (alone s).lists

  -- the body as it is written again
  abbrev pub C : List ℕ
  C = cleared_of p.mhdr.payload_type (body_in s)

  cleared_by : (t : PayloadType) → pick (is_uplink t) (even_at (body_in s) 3) (body_in s) ≡ cleared_of t (body_in s)
  cleared_by Uplink = refl
  cleared_by Downlink = refl
  cleared_by Event = refl
  cleared_by Command = refl

  pub C-length : length C ≡ length s - 5
  C-length =
      let r = was_read s p read in
      cleared_length p.mhdr.payload_type (body_in s) ∙ body_length s r.least

  pub wire_is : payload_wire (alone s) p.payload ≡ bytes C
  wire_is = let r = was_read s p read in body_again s r.least (body_bytes s small) none p.mhdr.payload_type p.payload r.body

  module _ (b : ℕ) where
    C-fits : length (b ∷ C) ≤ 8188
    C-fits = let r = was_read s p read in let m = r.most in let l = r.least in let c = C-length in omega arith

    -- under whatever header, and with whatever MIC
    module _ (h : MHDR) (q : Bool) (m : ℕ) (byte : header_byte h ≡ Byte b) where
      abbrev packet : MeshPacket
      packet = record { mhdr = h; payload = p.payload; has_mic = q; mic = m }

      pub message_is : message_of (alone s) packet ≡ bytes (b ∷ C)
      message_is = message_alone (alone s) packet refl refl ∙ ap₂ behind byte wire_is

      pub signed_is : signed_of (alone s) packet ≡ bytes (b ∷ C)
      unfolding signed_of fitting
      signed_is = ap fitting message_is ∙ simp (le-ltb 8188 (length (b ∷ C)) C-fits)

      pub set_is : (E : List ℕ → List ℕ) → set_mic E (alone s) packet ≡ Mesh (carrying_mic packet (mic_of E (b ∷ C)))
      unfolding set_mic
      set_is E = ap (signed_by E packet) signed_is

    pub edit_is : (E : List ℕ → List ℕ) (n : ℕ) → header_byte (carrying_count p n).mhdr ≡ Byte b → hop_edit E s n ≡ bytes (sealed_with E b C)
    unfolding hop_edit mesh_frame with_mic
    edit_is E n e =
        let h = (carrying_count p n).mhdr in
        let m = mic_of E (b ∷ C) in
        ap (signed_anew E s n) read
        ∙ ap (written_of (alone s)) (set_is h p.has_mic p.mic e E)
        ∙ ap (with_mic true m) (message_is h true m e)
        ∙ simp (le-ltb 8188 (length (b ∷ C)) C-fits)

    -- what is rewritten in the buffer is that, where the MIC stands in the last four bytes
    in_place : (E : List ℕ → List ℕ) (end : ℕ) → end ≡ length s - 4
        → rewritten E b (is_uplink p.mhdr.payload_type) end s ≡ sealed_with E b C
    unfolding rewritten
    in_place E end at =
        let l = (was_read s p read).least in
        let t = p.mhdr.payload_type in
        let n : 0 < end = omega arith in
        let X = renewed b (is_uplink t) s in
        let k = renewed_length b (is_uplink t) s in
        let e : length X ≡ end + 4 = omega arith in
        simp (lt-ltb 0 end n)
        (laid_is E end X (b ∷ C) e
        (ap (λ (i : ℕ). take i X) at ∙ front s b (is_uplink t) l ∙ ap (λ (v : List ℕ). b ∷ v) (cleared_by t)))

    pub rewritten_is : (E : List ℕ → List ℕ) (n : ℕ) → header_byte (carrying_count p n).mhdr ≡ Byte b → (up : Bool) (x : List ℕ) (end : ℕ) → up ≡ is_uplink p.mhdr.payload_type
        → x ≡ rewritten E b up end s → end ≡ length s - 4 → x ≡ leaves (hop_edit E s n) s
    rewritten_is E n e up x end f g at =
        g ∙ ap (λ (u : Bool). rewritten E b u end s) f ∙ in_place E end at ∙ sym (ap (λ (y : Writing). leaves y s) (edit_is E n e))

-- the reader's refusal is the edit's
pub edit_unread : (E : List ℕ → List ℕ) (s : List ℕ) (k n : ℕ) → mesh_of s ≡ Refused k → hop_edit E s n ≡ refused k
unfolding hop_edit
edit_unread E s k n e = ap (signed_anew E s n) e

-- 6, 7
pub edit_uncounted : (E : List ℕ → List ℕ) (s : List ℕ) (p : MeshPacket) (k n : ℕ) → mesh_of s ≡ Mesh p → header_byte (carrying_count p n).mhdr ≡ NoByte k → hop_edit E s n ≡ refused k
unfolding hop_edit set_mic signed_of fitting
edit_uncounted E s p k n e f =
    ap (signed_anew E s n) e
    ∙ ap (λ (x : Writing). written_of (alone s) (signed_by E (carrying_count p n) (fitting x))) (message_alone (alone s) (carrying_count p n) refl refl)
    ∙ ap (λ (x : HeaderByte). written_of (alone s) (signed_by E (carrying_count p n) (fitting (behind x (payload_wire (alone s) p.payload))))) f
