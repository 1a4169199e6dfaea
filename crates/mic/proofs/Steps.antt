-- The steps that signing takes, over any head, payload and lent lists. Assumes nothing.
use Prim.Native.Nat.{ℕ, ◌+◌, ◌≤◌, ◌<◌}
use native.Mathlib.Omega.{arith}
use mathlib.Core.Bool.{Bool, true, false}
use mathlib.Core.Path.{◌≡◌, refl, sym, ap, ap₂, ◌∙◌}
use mathlib.Core.List.{List, [], ◌∷◌, ◌++◌, foldl, foldl-append}
use lib.Dec.{eqb}
use lib.ListN.{length, get_or, take, length-append}
use borrow.Author.Tests.{lt-ltb, le-ltb, eq-eqb, ne_eqb}
use Rattle.base.specs.Pick.{pick}
use Rattle.base.specs.Lists.{Bytes}
use Rattle.base.specs.Blocks.{Block}
use Rattle.base.proofs.Bytes.{cons_lt, append_lt}
use Rattle.base.specs.Numbers.{frame_long, mic_missing}
use Rattle.base.specs.Answers.{Writing, bytes, refused}
use Rattle.wire.specs.Number.{be_of}
use Rattle.fips197.specs.Aes.{aes}
use Rattle.cipher.specs.inner.Words.{prepared, enciphered}
use Rattle.cipher.proofs.Laws.{prepared_agrees}
use Rattle.cmac_chain.specs.Cmac.{tag}
use Rattle.cmac_chain.specs.inner.State.{begun, absorb1, finished}
use Rattle.cmac_chain.specs.declared.Mac.{Mac}
use Rattle.cmac_chain.proofs.Laws.{finish_tag, tag_same}
use Rattle.links.specs.Write.{prefixed, headed_by}
use Rattle.contents.specs.Content.{Lent, content_refusal, content_bytes, content_wire}
use Rattle.contents.specs.declared.content.Content.{Content}
use Rattle.base.proofs.Answers.{is_refused, not_refused}
use Rattle.fields.specs.Header.{header_byte}
use Rattle.fields.specs.declared.header.HeaderByte.{HeaderByte}
use Rattle.fields.specs.declared.header.HeaderByte.TheVariants.{Byte, Refused as NoByte}
use Rattle.packets.specs.Write.{payload_wire, kinds_in, behind}
use Rattle.packets.proofs.Laws.{message_strange, message_known}
use Rattle.packets.specs.declared.mesh.MeshPacket.{MeshPacket}
use Rattle.packets.specs.declared.mesh.MeshRead.TheVariants.{Mesh, Refused as NotSigned}
use Rattle.mic.specs.Mic.{mic_of, fitting, signed_of, carrying_mic, signed_by, set_mic, compared_by, validate_mic}
use Rattle.mic.specs.inner.Made.{made_of}
use Rattle.mic.specs.declared.Made.{Made}
use Rattle.mic.specs.declared.Made.TheVariants.{Mic, Refused}
use Rattle.mic.specs.declared.Validated.TheVariants.{Valid, Invalid, Refused as NotValidated}

-- the front of a tag
pub four_front : (t : List ℕ) → 4 ≤ length t → get_or t 0 0 ∷ get_or t 1 0 ∷ get_or t 2 0 ∷ get_or t 3 0 ∷ [] ≡ take 4 t
four_front [] h = absurd (omega arith)
four_front (a ∷ []) h = absurd (omega arith)
four_front (a ∷ b ∷ []) h = absurd (omega arith)
four_front (a ∷ b ∷ c ∷ []) h = absurd (omega arith)
four_front (a ∷ b ∷ c ∷ d ∷ t) h = refl

-- ---- a frame that is signed, or is not

module _ (E : List ℕ → List ℕ) where
  pub unsigned : (first k : ℕ) (f : Writing) → f ≡ refused k → Refused k ≡ made_of E (fitting (prefixed first f))
  unfolding made_of fitting
  unsigned first k f e = rw e refl

  pub signs : (first : ℕ) (f : Writing) (w : List ℕ) (r : Made) → f ≡ bytes w → r ≡ made_of E (fitting (bytes (first ∷ w))) → r ≡ made_of E (fitting (prefixed first f))
  signs first f w r e h = h ∙ ap (λ (g : Writing). made_of E (fitting (prefixed first g))) (sym e)

  pub over : (first : ℕ) (h p : List ℕ) → 8187 < length h + length p → Refused frame_long ≡ made_of E (fitting (bytes (first ∷ (h ++ p))))
  unfolding made_of fitting
  over first h p l =
      let n = length-append h p in
      let g : 8188 < length (first ∷ (h ++ p)) = omega arith in
      simp (lt-ltb 8188 (length (first ∷ (h ++ p))) g)

  module _ (l : Lent) (p : MeshPacket) (k : ℕ) (known : k ≡ kinds_in l p) where
    -- 29
    pub kinds_refused : (k ≡ 0 → ⊥) → Refused k ≡ made_of E (signed_of l p)
    unfolding signed_of fitting made_of
    kinds_refused h = rw (message_strange l p k known h) refl

    module _ (z : k ≡ 0) where
      -- 6, 7, and otherwise what stands behind the byte
      pub header_refused : (n : ℕ) → NoByte n ≡ header_byte p.mhdr → Refused n ≡ made_of E (signed_of l p)
      unfolding signed_of fitting made_of
      header_refused n e = rw (message_known l p k known z, ← e) refl

      pub header_byte_lem : (b : ℕ) (f : Writing) (r : Made) → Byte b ≡ header_byte p.mhdr → payload_wire l p.payload ≡ f
          → r ≡ made_of E (fitting (prefixed b f)) → r ≡ made_of E (signed_of l p)
      unfolding signed_of
      header_byte_lem b f r e q h =
          h ∙ sym (ap₂ (λ (x : HeaderByte) (y : Writing). made_of E (fitting (behind x y))) (sym e) q)
          ∙ sym (ap (λ (x : Writing). made_of E (fitting x)) (message_known l p k known z))

-- ---- a content behind its head

module _ (ev : Bool) (l : Lent) (b : Content) (head : List ℕ) (k : ℕ) (ek : k ≡ content_refusal ev l b) where
  pub wire_refused : (k ≡ 0 → ⊥) → headed_by head (content_wire ev l b) ≡ refused k
  unfolding content_wire
  wire_refused h = ap (headed_by head) (sym (is_refused k _ (bytes (content_bytes ev l b)) ek h))

  pub wire_bytes : k ≡ 0 → headed_by head (content_wire ev l b) ≡ bytes (head ++ content_bytes ev l b)
  unfolding content_wire
  wire_bytes h = ap (headed_by head) (sym (not_refused (content_refusal ev l b) (bytes (content_bytes ev l b)) (sym ek ∙ h)))

-- ---- header byte, head and payload, absorbed one after the other

module _ (key : List ℕ) (k : Block key) (first : ℕ) (h p : List ℕ) (lf : first < 256) (lh : Bytes h) (lp : Bytes p) where
  abbrev M : List ℕ
  M = first ∷ (h ++ p)

  -- the state after all three, whatever way it came about
  pub mic_is : (e : List ℕ) (d : Mac) (t : List ℕ) (n : ℕ) → e ≡ prepared key
      → d ≡ foldl (absorb1 (enciphered e)) (foldl (absorb1 (enciphered e)) (foldl (absorb1 (enciphered e)) begun (first ∷ [])) h) p
      → t ≡ finished (enciphered e) d → n ≡ be_of (take 4 t) → length h + length p ≤ 8187 → Mic n ≡ made_of (aes key) (fitting (bytes M))
  unfolding made_of fitting mic_of
  mic_is e d t n ee ed et en l =
      let a = length-append h p in
      let f = absorb1 (enciphered e) in
      let g : length M ≤ 8188 = omega arith in
      let one : d ≡ foldl f begun M = ed ∙ sym (foldl-append f (foldl f begun (first ∷ [])) h p) in
      let same : t ≡ tag (aes key) M =
      et ∙ ap (finished (enciphered e)) one ∙ finish_tag (enciphered e) M ∙ ap (λ (x : List ℕ). tag (enciphered x) M) ee
      ∙ tag_same _ _ (prepared_agrees key k) M (cons_lt first (h ++ p) lf (append_lt h p lh lp)) in
      simp (le-ltb 8188 (length M) g) (ap Mic (en ∙ ap (λ (x : List ℕ). be_of (take 4 x)) same))

-- ---- the MIC in its packet, and beside the one that is there

module _ (E : List ℕ → List ℕ) (l : Lent) (p : MeshPacket) where
  set_by : (f : Writing) (k : ℕ) → Refused k ≡ made_of E f → NotSigned k ≡ signed_by E p f
  unfolding made_of
  set_by (refused n) k e = ap NotSigned (let q : k ≡ n = cc in q)
  set_by (bytes w) k e = let z : ◌≡◌ {A = ℕ} 0 1 = cc in absurd (omega arith)

  pub set_refused : (r : Made) (k : ℕ) → r ≡ made_of E (signed_of l p) → r ≡ Refused k → NotSigned k ≡ set_mic E l p
  unfolding set_mic
  set_refused r k e g = set_by (signed_of l p) k (sym g ∙ e)

  set_mic_by : (f : Writing) (m : ℕ) → Mic m ≡ made_of E f → Mesh (carrying_mic p m) ≡ signed_by E p f
  unfolding made_of
  set_mic_by (refused n) m e = let z : ◌≡◌ {A = ℕ} 0 1 = cc in absurd (omega arith)
  set_mic_by (bytes w) m e = ap (λ (x : ℕ). Mesh (carrying_mic p x)) (let q : m ≡ mic_of E w = cc in q)

  pub set_made : (r : Made) (m : ℕ) → r ≡ made_of E (signed_of l p) → r ≡ Mic m → Mesh (carrying_mic p m) ≡ set_mic E l p
  unfolding set_mic
  set_made r m e g = set_mic_by (signed_of l p) m (sym g ∙ e)

  compared_no : (f : Writing) (k : ℕ) → Refused k ≡ made_of E f → NotValidated k ≡ compared_by E p.mic f
  unfolding made_of
  compared_no (refused n) k e = ap NotValidated (let q : k ≡ n = cc in q)
  compared_no (bytes w) k e = let z : ◌≡◌ {A = ℕ} 0 1 = cc in absurd (omega arith)

  compared_as : (f : Writing) (m : ℕ) → Mic m ≡ made_of E f → pick (eqb p.mic m) Valid Invalid ≡ compared_by E p.mic f
  unfolding made_of
  compared_as (refused n) m e = let z : ◌≡◌ {A = ℕ} 0 1 = cc in absurd (omega arith)
  compared_as (bytes w) m e = ap (λ (x : ℕ). pick (eqb p.mic x) Valid Invalid) (let q : m ≡ mic_of E w = cc in q)

  module _ (k : ℕ) (known : k ≡ kinds_in l p) where
    pub kinds_first : (k ≡ 0 → ⊥) → NotValidated k ≡ validate_mic E l p
    unfolding validate_mic
    kinds_first h = rw (← known) (simp (ne_eqb k 0 h))

    module _ (z : k ≡ 0) where
      pub no_mic : p.has_mic ≡ false → NotValidated mic_missing ≡ validate_mic E l p
      unfolding validate_mic
      no_mic e = rw (← known) (simp (eq-eqb k 0 z, e))

      module _ (has : p.has_mic ≡ true) (r : Made) (e : r ≡ made_of E (signed_of l p)) where
        pub not_validated : (n : ℕ) → r ≡ Refused n → NotValidated n ≡ validate_mic E l p
        unfolding validate_mic
        not_validated n g = compared_no (signed_of l p) n (sym g ∙ e) ∙ rw (← known) (simp (eq-eqb k 0 z, has))

        validated_as : (m : ℕ) → r ≡ Mic m → pick (eqb p.mic m) Valid Invalid ≡ validate_mic E l p
        unfolding validate_mic
        validated_as m g = compared_as (signed_of l p) m (sym g ∙ e) ∙ rw (← known) (simp (eq-eqb k 0 z, has))

        pub valid : (m : ℕ) → r ≡ Mic m → p.mic ≡ m → Valid ≡ validate_mic E l p
        valid m g q = ap (λ (t : Bool). pick t Valid Invalid) (sym (eq-eqb p.mic m q)) ∙ validated_as m g

        pub invalid : (m : ℕ) → r ≡ Mic m → (p.mic ≡ m → ⊥) → Invalid ≡ validate_mic E l p
        invalid m g q = ap (λ (t : Bool). pick t Valid Invalid) (sym (ne_eqb p.mic m q)) ∙ validated_as m g
