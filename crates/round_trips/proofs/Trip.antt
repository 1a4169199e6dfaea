-- A frame of a header byte, a body and a MIC is read as these. Assumes nothing.
use Prim.Native.Nat.{ℕ, ◌+◌, ◌-◌, ◌≤◌, ◌<◌}
use native.Mathlib.Nat.{add-zero}
use native.Mathlib.Omega.{arith}
use mathlib.Core.Bool.{Bool, true, false}
use mathlib.Core.Path.{◌≡◌, refl, sym, ap, ◌∙◌}
use mathlib.Core.List.{List, ◌∷◌, ◌++◌}
use lib.ListN.{length, get_or, length-append}
use lib.Seq.{take_at, get_or-append-add}
use lib.Dec.{ltb, eqb}
use borrow.Author.Tests.{le-ltb, ne_eqb, ltb-false}
use Rattle.base.specs.Pick.{pick}
use Rattle.base.specs.Answers.{Writing, bytes, refused}
use Rattle.wire.specs.Number.{be_bytes}
use Rattle.wire.proofs.Laws.Number.{be_length, of_bytes}
use Rattle.fields.specs.Header.{header_of, header_byte}
use Rattle.fields.specs.declared.header.MHDR.{MHDR}
use Rattle.fields.specs.declared.header.HeaderRead.TheVariants.{Header}
use Rattle.fields.specs.declared.header.HeaderByte.{HeaderByte}
use Rattle.fields.specs.declared.header.HeaderByte.TheVariants.{Byte, Refused as NoByte}
use Rattle.fields.proofs.Laws.Header.{header_back}
use Rattle.links.specs.Read.{four_at}
use Rattle.contents.specs.Content.{Lent}
use Rattle.links.specs.Write.{prefixed, with_mic}
use Rattle.packets.specs.Read.{body_in, payload_at, with_payload, with_header, mesh_of}
use Rattle.packets.specs.Write.{payload_wire, kinds_in, behind, message_of, mesh_frame}
use Rattle.packets.specs.declared.mesh.MeshPacket.{MeshPacket}
use Rattle.packets.specs.declared.mesh.PayloadRead.{PayloadRead}
use Rattle.packets.specs.declared.mesh.PayloadRead.TheVariants.{Payload as PayloadIs, Refused as NoPayload}
use Rattle.packets.specs.declared.mesh.MeshRead.{MeshRead}
use Rattle.packets.specs.declared.mesh.MeshRead.TheVariants.{Mesh, Refused}

-- four bytes behind a run
pub four_behind : (s : List ℕ) (v : ℕ) → v < 4294967296 → four_at (s ++ be_bytes 4 v) (length s) ≡ v
unfolding be_bytes
four_behind s v h =
    let z : get_or (s ++ be_bytes 4 v) (length s) 0 ≡ get_or (be_bytes 4 v) 0 0 = ap (λ (n : ℕ). get_or (s ++ be_bytes 4 v) n 0) (sym (add-zero (length s))) ∙ get_or-append-add s (be_bytes 4 v) 0 0 in
    rw (z, get_or-append-add s (be_bytes 4 v) 1 0, get_or-append-add s (be_bytes 4 v) 2 0, get_or-append-add s (be_bytes 4 v) 3 0) (of_bytes 4 v h)

-- what a payload, once read, makes of a header and a MIC
abbrev pub read_as : MHDR → ℕ → PayloadRead → MeshRead
read_as h m (PayloadIs p) = Mesh (record { mhdr = h; payload = p; has_mic = true; mic = m })
read_as h m (NoPayload n) = Refused n

read_as_lem : (s : List ℕ) (h : MHDR) (m : ℕ) (r : PayloadRead) → four_at s (length s - 4) ≡ m → with_payload s h r ≡ read_as h m r
read_as_lem s h m (PayloadIs p) e = ap (λ (x : ℕ). Mesh (record { mhdr = h; payload = p; has_mic = true; mic = x })) e
read_as_lem s h m (NoPayload n) e = refl

module _ (b m : ℕ) (body : List ℕ) (fits : length body ≤ 8187) (small : m < 4294967296) where
  abbrev frame : List ℕ
  frame = (b ∷ body) ++ be_bytes 4 m

  long : length frame ≡ length body + 5
  long = let n : length (be_bytes 4 m) ≡ 4 = be_length 4 m in simp length-append (omega arith)

  the_body : body_in frame ≡ body
  the_body = let l : length body ≡ length frame - 4 - 1 = rw long (omega arith) in take_at body (be_bytes 4 m) (length frame - 4 - 1) l

  the_mic : four_at frame (length frame - 4) ≡ m
  the_mic =
      let n : length frame - 4 ≡ length (b ∷ body) = rw long (omega arith) in
      ap (four_at frame) n ∙ four_behind (b ∷ body) m small

  pub frame_read : (h : MHDR) → header_of b ≡ Header h → mesh_of frame ≡ read_as h m (payload_at h.payload_type body)
  unfolding mesh_of
  frame_read h e =
      let n : length frame ≡ 0 → ⊥ = λ z. omega (arith, long) in
      let l : length frame ≤ 8192 = omega (arith, long) in
      let k : 5 ≤ length frame = omega (arith, long) in
      simp (ne_eqb (length frame) 0 n, le-ltb 8192 (length frame) l, le-ltb (length frame) 5 k)
      (ap (with_header frame) e
      ∙ ap (λ (x : List ℕ). with_payload frame h (payload_at h.payload_type x)) the_body
      ∙ read_as_lem frame h m (payload_at h.payload_type body) the_mic)

-- what a frame that was written is made of
pub record Made (s : Lent) (p : MeshPacket) (w : List ℕ) : Type 0 where
  pub byte : ℕ
  pub body : List ℕ
  pub header : header_byte p.mhdr ≡ Byte byte
  pub payload : payload_wire s p.payload ≡ bytes body
  pub signed : p.has_mic ≡ true
  pub fits : length body ≤ 8187
  pub is : w ≡ (byte ∷ body) ++ be_bytes 4 p.mic

never : (n : ℕ) (w : List ℕ) → refused n ≡ bytes w → ⊥
never n w e = let z : ◌≡◌ {A = ℕ} 0 1 = cc in omega arith

same_bytes : (v w : List ℕ) → bytes v ≡ bytes w → v ≡ w
same_bytes v w e = cc

module _ (s : Lent) (p : MeshPacket) (w : List ℕ) where
  fitting : (b : ℕ) (v : List ℕ) → header_byte p.mhdr ≡ Byte b → payload_wire s p.payload ≡ bytes v → p.has_mic ≡ true
      → (t : Bool) → ltb 8188 (length (b ∷ v)) ≡ t → pick t (refused 5) (bytes ((b ∷ v) ++ be_bytes 4 p.mic)) ≡ bytes w → Made s p w
  fitting b v h f m true q e = absurd (never 5 w e)
  fitting b v h f m false q e =
      let l : length (b ∷ v) ≤ 8188 = ltb-false _ _ q in
      record { byte = b; body = v; header = h; payload = f; signed = m; fits = omega arith; is = sym (same_bytes _ _ e) }

  signing : (b : ℕ) (v : List ℕ) → header_byte p.mhdr ≡ Byte b → payload_wire s p.payload ≡ bytes v → (t : Bool) → p.has_mic ≡ t
      → with_mic t p.mic (bytes (b ∷ v)) ≡ bytes w → Made s p w
  unfolding with_mic
  signing b v h f true m e = fitting b v h f m (ltb 8188 (length (b ∷ v))) refl e
  signing b v h f false m e = absurd (never 27 w e)

  bodied : (b : ℕ) → header_byte p.mhdr ≡ Byte b → (f : Writing) → payload_wire s p.payload ≡ f
      → with_mic p.has_mic p.mic (prefixed b f) ≡ bytes w → Made s p w
  unfolding with_mic
  bodied b h (refused n) q e = absurd (never n w e)
  bodied b h (bytes v) q e = signing b v h q p.has_mic refl e

  headed : (x : HeaderByte) → header_byte p.mhdr ≡ x → with_mic p.has_mic p.mic (behind x (payload_wire s p.payload)) ≡ bytes w → Made s p w
  unfolding with_mic
  headed (NoByte n) h e = absurd (never n w e)
  headed (Byte b) h e = bodied b h (payload_wire s p.payload) refl e

  known : (t : Bool) → with_mic p.has_mic p.mic (pick t (behind (header_byte p.mhdr) (payload_wire s p.payload)) (refused (kinds_in s p))) ≡ bytes w → Made s p w
  unfolding with_mic
  known true e = headed (header_byte p.mhdr) refl e
  known false e = absurd (never (kinds_in s p) w e)

  pub made : mesh_frame s p ≡ bytes w → Made s p w
  unfolding mesh_frame message_of
  made e = known (eqb (kinds_in s p) 0) e

  -- read again: the header as it was, the MIC as it was, and what the body is read as by the header's type
  pub written_read : mesh_frame s p ≡ bytes w → p.mic < 4294967296
      → (body : List ℕ) × (payload_wire s p.payload ≡ bytes body) × (length body ≤ 8187)
      × (mesh_of w ≡ read_as p.mhdr p.mic (payload_at p.mhdr.payload_type body))
  written_read e h =
      let k = made e in
      (k.body, k.payload, k.fits, ap mesh_of k.is ∙ frame_read k.byte p.mic k.body k.fits h p.mhdr (header_back p.mhdr k.byte k.header))
