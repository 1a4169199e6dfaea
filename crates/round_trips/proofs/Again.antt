-- What a frame that was read is made of, and what writing it again gives. Assumes nothing.
use Prim.Native.Nat.{ℕ, ◌+◌, ◌-◌, ◌≤◌, ◌<◌}
use native.Mathlib.Nat.{add-zero}
use native.Mathlib.Omega.{arith}
use mathlib.Core.Bool.{Bool, true, false}
use mathlib.Core.Path.{◌≡◌, refl, sym, ap, ap₂, subst, ◌∙◌}
use mathlib.Core.List.{List, [], ◌∷◌, ◌++◌}
use lib.Dec.{ltb, eqb}
use lib.ListN.{length, get_or, drop, length-drop}
use lib.Seq.{get_or-drop}
use borrow.Author.Tests.{le-ltb, ltb-false}
use Rattle.base.specs.Pick.{pick}
use Rattle.base.specs.Lists.{Bytes}
use Rattle.base.specs.Answers.{Writing, bytes}
use Rattle.base.proofs.Lists.{◌◂◌, listed}
use Rattle.wire.specs.Number.{be_of, be_bytes}
use Rattle.wire.proofs.Laws.Number.{bytes_of_lem}
use Rattle.fields.specs.Header.{header_of, header_byte}
use Rattle.fields.specs.declared.header.MHDR.{MHDR}
use Rattle.fields.specs.declared.header.HeaderRead.{HeaderRead}
use Rattle.fields.specs.declared.header.HeaderRead.TheVariants.{Header, Refused as NoHeader}
use Rattle.fields.specs.declared.header.HeaderByte.{HeaderByte}
use Rattle.fields.specs.declared.header.HeaderByte.TheVariants.{Byte}
use Rattle.fields.proofs.Laws.Header.{header_again}
use Rattle.links.specs.Read.{four_at}
use Rattle.composed_items.specs.Composed.{Lists}
use Rattle.contents.specs.Content.{framed}
use Rattle.links.specs.Write.{with_mic}
use Rattle.packets.specs.Read.{body_in, payload_at, with_payload, with_header, mesh_of}
use Rattle.packets.specs.Write.{payload_wire, behind, mesh_frame}
use Rattle.packets.proofs.Laws.{message_is}
use Rattle.packets.specs.declared.mesh.MeshPacket.{MeshPacket}
use Rattle.packets.specs.declared.mesh.PayloadRead.{PayloadRead}
use Rattle.packets.specs.declared.mesh.PayloadRead.TheVariants.{Payload as PayloadIs, Refused as NoPayload}
use Rattle.packets.specs.declared.mesh.MeshRead.TheVariants.{Mesh, Refused}

pub record Read (s : List ℕ) (p : MeshPacket) : Type 0 where
  pub least : 5 ≤ length s
  pub most : length s ≤ 8192
  pub header : header_of (get_or s 0 0) ≡ Header p.mhdr
  pub body : payload_at p.mhdr.payload_type (body_in s) ≡ PayloadIs p.payload
  pub signed : p.has_mic ≡ true
  pub mic : p.mic ≡ four_at s (length s - 4)

no_mesh : (n : ℕ) (p : MeshPacket) → Refused n ≡ Mesh p → ⊥
no_mesh n p e = let z : ◌≡◌ {A = ℕ} 0 1 = cc in omega arith

module _ (s : List ℕ) (p : MeshPacket) where
  with_payload_lem : 5 ≤ length s → length s ≤ 8192 → (h : MHDR) → header_of (get_or s 0 0) ≡ Header h → (r : PayloadRead)
      → payload_at h.payload_type (body_in s) ≡ r → with_payload s h r ≡ Mesh p → Read s p
  with_payload_lem l m h e (NoPayload n) q x = absurd (no_mesh n p x)
  with_payload_lem l m h e (PayloadIs b) q x =
      let y : record { mhdr = h; payload = b; has_mic = true; mic = four_at s (length s - 4) } ≡ p = cc in
      rw (← y) (record { least = l; most = m; header = e; body = q; signed = refl; mic = refl })

  with_header_lem : 5 ≤ length s → length s ≤ 8192 → (x : HeaderRead) → header_of (get_or s 0 0) ≡ x → with_header s x ≡ Mesh p → Read s p
  with_header_lem l m (NoHeader n) e x = absurd (no_mesh n p x)
  with_header_lem l m (Header h) e x = with_payload_lem l m h e (payload_at h.payload_type (body_in s)) refl x

  third : length s ≤ 8192 → (t : Bool) → ltb (length s) 5 ≡ t → pick t (Refused 2) (with_header s (header_of (get_or s 0 0))) ≡ Mesh p → Read s p
  third m true e x = absurd (no_mesh 2 p x)
  third m false e x = with_header_lem (ltb-false _ _ e) m (header_of (get_or s 0 0)) refl x

  second : (t : Bool) → ltb 8192 (length s) ≡ t
      → pick t (Refused 5) (pick (ltb (length s) 5) (Refused 2) (with_header s (header_of (get_or s 0 0)))) ≡ Mesh p → Read s p
  second true e x = absurd (no_mesh 5 p x)
  second false e x = third (ltb-false _ _ e) (ltb (length s) 5) refl x

  first : (t : Bool) → pick t (Refused 1) (pick (ltb 8192 (length s)) (Refused 5) (pick (ltb (length s) 5) (Refused 2) (with_header s (header_of (get_or s 0 0))))) ≡ Mesh p
      → Read s p
  first true x = absurd (no_mesh 1 p x)
  first false x = second (ltb 8192 (length s)) refl x

  pub was_read : mesh_of s ≡ Mesh p → Read s p
  unfolding mesh_of
  was_read x = first (eqb (length s) 0) x

-- the last four bytes of a list are those of their number
pub last_four : (s : List ℕ) (i : ℕ) → Bytes s → length s ≡ i + 4 → be_bytes 4 (four_at s i) ≡ drop i s
last_four s i h n =
    let D = drop i s in
    let l : length D ≡ 4 = length-drop i s ∙ omega arith in
    let z : get_or D 0 0 ≡ get_or s i 0 = get_or-drop i s 0 0 ∙ ap (λ (k : ℕ). get_or s k 0) (add-zero i) in
    let e : D ≡ get_or s i 0 ∷ get_or s (i + 1) 0 ∷ get_or s (i + 2) 0 ∷ get_or s (i + 3) 0 ∷ [] =
    sym (listed 4 D l) ∙ (z ◂ get_or-drop i s 1 0 ◂ get_or-drop i s 2 0 ◂ get_or-drop i s 3 0 ◂ refl) in
    let b : Bytes D = λ k. subst (λ (x : ℕ). x < 256) (sym (get_or-drop i s k 0)) (h (i + k)) in
    ap (λ (x : List ℕ). be_bytes 4 (be_of x)) (sym e) ∙ ap (λ (k : ℕ). be_bytes k (be_of D)) (sym l) ∙ bytes_of_lem D b

-- written again: the same header byte, the body as it is written, and the same MIC
pub read_written : (s : List ℕ) (x : Lists) (p : MeshPacket) (v : List ℕ) → Bytes s → mesh_of s ≡ Mesh p → payload_wire (framed s x) p.payload ≡ bytes v → length v ≡ length s - 5
    → mesh_frame (framed s x) p ≡ bytes ((get_or s 0 0 ∷ v) ++ drop (length s - 4) s)
unfolding mesh_frame with_mic
read_written s x p v h e f n =
    let r = was_read s p e in
    let l = r.least in
    let m = r.most in
    let b : header_byte p.mhdr ≡ Byte (get_or s 0 0) = header_again (get_or s 0 0) (h 0) p.mhdr r.header in
    let g : length (get_or s 0 0 ∷ v) ≤ 8188 = omega arith in
    let q : length s ≡ length s - 4 + 4 = omega arith in
    let d : be_bytes 4 p.mic ≡ drop (length s - 4) s = ap (be_bytes 4) r.mic ∙ last_four s (length s - 4) h q in
    ap (with_mic p.has_mic p.mic) (message_is (framed s x) p v f)
    ∙ ap₂ (λ (z : HeaderByte) (y : Writing). with_mic p.has_mic p.mic (behind z y)) b f
    ∙ ap (λ (t : Bool). with_mic t p.mic (bytes (get_or s 0 0 ∷ v))) r.signed
    ∙ simp (le-ltb 8188 (length (get_or s 0 0 ∷ v)) g) (ap (λ (y : List ℕ). bytes ((get_or s 0 0 ∷ v) ++ y)) d)
