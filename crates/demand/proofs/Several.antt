-- Several edits leave what the last accepted one alone would leave. Assumes nothing.
use Prim.Native.Nat.{ℕ}
use mathlib.Core.Path.{◌≡◌, refl, sym, ap, ◌∙◌}
use mathlib.Core.List.{List, [], ◌∷◌, foldl}
use mathlib.Core.Option.{Option, none, some}
use Rattle.base.specs.Pick.{pick}
use Rattle.base.specs.Lists.{Bytes}
use Rattle.base.specs.Answers.{Writing, bytes, refused}
use Rattle.fips197.specs.Aes.{aes}
use Rattle.fields.specs.Header.{header_byte}
use Rattle.fields.specs.declared.header.HeaderByte.{HeaderByte}
use Rattle.fields.specs.declared.header.HeaderByte.TheVariants.{Byte, Refused as NoByte}
use Rattle.packets.specs.Read.{mesh_of, even_mesh}
use Rattle.packets.specs.declared.mesh.MeshPacket.{MeshPacket}
use Rattle.packets.specs.declared.mesh.MeshRead.{MeshRead}
use Rattle.packets.specs.declared.mesh.MeshRead.TheVariants.{Mesh, Refused}
use Rattle.hops.specs.Hops.{carrying_count, leaves}
use Rattle.hops.proofs.Laws.{sealed_with, edit_is, edit_unread, edit_uncounted}
use Rattle.demand.specs.Demand.{Edit, edited, after, accepts, last_accepted, after_only}
use Rattle.demand.proofs.Edited.{new_frame, new_packet, edit_gives, new_bytes, read_gives, new_again}

module _ (s : List ℕ) (small : Bytes s) where
  -- an edit answers the same, whatever edit came before it
  module _ (d e : Edit) where
    second : (p : MeshPacket) (x : mesh_of s ≡ Mesh p) (v : ℕ) (y : header_byte (carrying_count p d.count).mhdr ≡ Byte v) (b : HeaderByte) → header_byte (carrying_count p e.count).mhdr ≡ b
        → edited (new_frame s p small x d v y) e ≡ edited s e
    second p x v y (NoByte k) z =
        let w = new_frame s p small x d v y in
        let q = even_mesh (new_packet s p small x d v y) in
        edit_uncounted (aes e.key) w q k e.count (read_gives s p small x d v y) z ∙ sym (edit_uncounted (aes e.key) s p k e.count x z)
    second p x v y (Byte u) z =
        let w = new_frame s p small x d v y in
        let q = even_mesh (new_packet s p small x d v y) in
        edit_is w q (new_bytes s p small x d v y) (read_gives s p small x d v y) u (aes e.key) e.count z
        ∙ ap (λ (l : List ℕ). bytes (sealed_with (aes e.key) u l)) (new_again s p small x d v y)
        ∙ sym (edit_gives s p small x e u z)

    first : (p : MeshPacket) → mesh_of s ≡ Mesh p → (b : HeaderByte) → header_byte (carrying_count p d.count).mhdr ≡ b → edited (after s d) e ≡ edited s e
    first p x (NoByte k) y = ap (λ (f : Writing). edited (leaves f s) e) (edit_uncounted (aes d.key) s p k d.count x y)
    first p x (Byte v) y =
        ap (λ (f : Writing). edited (leaves f s) e) (edit_gives s p small x d v y) ∙ second p x v y (header_byte (carrying_count p e.count).mhdr) refl

    by_read : (r : MeshRead) → mesh_of s ≡ r → edited (after s d) e ≡ edited s e
    by_read (Refused k) x = ap (λ (f : Writing). edited (leaves f s) e) (edit_unread (aes d.key) s k d.count x)
    by_read (Mesh p) x = first p x (header_byte (carrying_count p d.count).mhdr) refl

    pub same_answer : edited (after s d) e ≡ edited s e
    same_answer = by_read (mesh_of s) refl

  -- one edit more
  module _ (e : Edit) where
    one_by : (o : Option Edit) (x : Writing) → edited (after_only s o) e ≡ x → leaves x (after_only s o) ≡ after_only s (pick (accepts x) (some e) o)
    one_by o (refused k) h = refl
    one_by none (bytes v) h = sym (ap (λ (f : Writing). leaves f s) h)
    one_by (some d) (bytes v) h = sym (ap (λ (f : Writing). leaves f s) (sym (same_answer d e) ∙ h))

    one : (o : Option Edit) → after (after_only s o) e ≡ after_only s (pick (accepts (edited (after_only s o) e)) (some e) o)
    one o = one_by o (edited (after_only s o) e) refl

  pub from_one : (es : List Edit) (o : Option Edit) → foldl after (after_only s o) es ≡ after_only s (last_accepted (after_only s o) o es)
  unfolding last_accepted
  from_one [] o = refl
  from_one (e ∷ es) o =
      let o' = pick (accepts (edited (after_only s o) e)) (some e) o in
      ap (λ (x : List ℕ). foldl after x es) (one e o)
      ∙ from_one es o'
      ∙ sym (ap (λ (x : List ℕ). after_only s (last_accepted x o' es)) (one e o))
