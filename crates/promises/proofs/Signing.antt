-- Signing and validating, over any block cipher E. Assumes nothing.
use Prim.Native.Nat.{ℕ, zero, suc}
use native.Mathlib.Omega.{arith}
use mathlib.Core.Bool.{Bool, true, false}
use mathlib.Core.Path.{◌≡◌, refl, sym, ap, ◌∙◌}
use mathlib.Core.List.{List, ◌++◌}
use lib.Dec.{ltb, eqb}
use lib.ListN.{length}
use Rattle.base.specs.Pick.{pick}
use borrow.Author.Tests.{eq-eqb, ne_eqb, eqb-true, eqb-false}
use Rattle.base.specs.Numbers.{mic_missing, type_large}
use Rattle.base.specs.Lists.{or_else}
use Rattle.base.proofs.Answers.{is_refused, not_refused}
use Rattle.base.specs.Answers.{value, number, Writing, bytes, refused, unless_refused, frame_number, number_in, answer_of, written_says}
use Rattle.wire.specs.Number.{be_bytes}
use Rattle.composed_items.specs.Composed.{verdict_of}
use Rattle.composed_items.proofs.Laws.{kinds_29}
use Rattle.contents.specs.Content.{Lent, content_kinds, content_refusal, content_wire}
use Rattle.contents.specs.declared.content.Content.{Content}
use Rattle.contents.specs.declared.content.Content.TheVariants.{Empty, Sealed, Open, Items}
use Rattle.wire.specs.Run.{run_refusal, run_bytes}
use Rattle.fields.specs.Header.{header_byte, byte_says}
use Rattle.fields.specs.Freq.{exact_steps, steps_wire, steps_says}
use Rattle.fields.specs.Meta.{down_refusal, after_freq, down_wire}
use Rattle.fields.specs.declared.header.HeaderByte.{HeaderByte}
use Rattle.fields.specs.declared.freq.StepsRead.{StepsRead}
use Rattle.links.specs.Write.{followed, headed_by, limited_of, with_mic, downlink_head, downlink_wire}
use Rattle.links.specs.declared.downlink.DownlinkPayload.{DownlinkPayload}
use Rattle.events.specs.Write.{stamp, stamped_wire, event_wire, command_wire}
use Rattle.packets.specs.Read.{mesh_says, even_mesh}
use Rattle.packets.specs.Write.{payload_wire, payload_kinds, kinds_in, behind, message_of, mesh_frame}
use Rattle.packets.proofs.Laws.{message_strange, strange_29}
use Rattle.packets.specs.declared.mesh.Payload.{Payload}
use Rattle.packets.specs.declared.mesh.Payload.TheVariants as payload
use Rattle.packets.specs.declared.mesh.MeshPacket.{MeshPacket}
use Rattle.packets.specs.declared.mesh.MeshRead.TheVariants.{Mesh}
use Rattle.sealing.specs.Seal.{content_seal, event_seal, event_sealed, command_seal, command_sealed}
use Rattle.sealing.specs.Mesh.{of_event_sealed, of_command_sealed, mesh_sealed}
use Rattle.mic.specs.declared.Validated.TheVariants.{Valid, Invalid, Refused as NotValidated}
use Rattle.round_trips.proofs.Even.{even_kinds, even_message}
use Rattle.promises.proofs.Said.{byte_said, steps_refused, mesh_said}
use Rattle.mic.specs.Mic.{mic_of, fitting, signed_of, carrying_mic, signed_by, set_mic, compared_by, validate_mic, valid_says}

-- 10.1: what is signed is what is written before the MIC
message_by : (f : Writing) (has : Bool) (mic : ℕ) (w : List ℕ) → with_mic has mic f ≡ bytes w → (m : List ℕ) × (fitting f ≡ bytes m) × (w ≡ m ++ be_bytes 4 mic)
unfolding with_mic fitting
message_by (refused n) has mic w e = let z : ◌≡◌ {A = ℕ} 0 1 = cc in absurd (omega arith)
message_by (bytes m) false mic w e = let z : ◌≡◌ {A = ℕ} 0 1 = cc in absurd (omega arith)
message_by (bytes m) true mic w e = by (ltb 8188 (length m)) refl where
  by : (t : Bool) → ltb 8188 (length m) ≡ t → (v : List ℕ) × (pick (ltb 8188 (length m)) (refused 5) (bytes m) ≡ bytes v) × (w ≡ v ++ be_bytes 4 mic)
  by true q = let e' : refused 5 ≡ bytes w = simp q at e in let z : ◌≡◌ {A = ℕ} 0 1 = cc in absurd (omega arith)
  by false q = let e' : bytes (m ++ be_bytes 4 mic) ≡ bytes w = simp q at e in let y : m ++ be_bytes 4 mic ≡ w = cc in (m, simp q, sym y)

pub signs_what_is_written : (l : Lent) (p : MeshPacket) (w : List ℕ) → mesh_frame l p ≡ bytes w → (m : List ℕ) × (signed_of l p ≡ bytes m) × (w ≡ m ++ be_bytes 4 p.mic)
unfolding mesh_frame signed_of
signs_what_is_written l p w e = message_by (message_of l p) p.has_mic p.mic w e

-- 4.11: signing refuses with the writer's number, but for 27
signing_by : (E : List ℕ → List ℕ) (p : MeshPacket) (f : Writing) → number_in (mesh_says (signed_by E p f)) ≡ frame_number f
signing_by E p (refused n) = refl
signing_by E p (bytes w) = refl

written_by : (f : Writing) (mic : ℕ) → frame_number (fitting f) ≡ frame_number (with_mic true mic f)
unfolding fitting with_mic
written_by (refused n) mic = refl
written_by (bytes m) mic = by (ltb 8188 (length m)) where
  by : (t : Bool) → frame_number (pick t (refused 5) (bytes m)) ≡ frame_number (pick t (refused 5) (bytes (m ++ be_bytes 4 mic)))
  by true = refl
  by false = refl

pub signing_refuses_as_writing : (E : List ℕ → List ℕ) (l : Lent) (p : MeshPacket) (mic : ℕ) → number_in (mesh_says (set_mic E l p)) ≡ frame_number (mesh_frame l (carrying_mic p mic))
unfolding set_mic signed_of mesh_frame message_of
signing_refuses_as_writing E l p mic = signing_by E p (fitting (message_of l p)) ∙ written_by (message_of l p) mic

-- before all else the kinds of composed items: 29 where they are written, signed or validated
pub strange_kind_refused : (E : List ℕ → List ℕ) (l : Lent) (p : MeshPacket) (o : List ℕ) → (kinds_in l p ≡ 0 → ⊥)
    → (written_says (answer_of (mesh_frame l p) o) ≡ number type_large) × (mesh_says (set_mic E l p) ≡ number type_large) × (valid_says (validate_mic E l p) ≡ number type_large)
unfolding mesh_frame with_mic answer_of set_mic signed_of fitting validate_mic
strange_kind_refused E l p o h =
    let k : kinds_in l p ≡ type_large = strange_29 _ _ p.payload h in
    let m : message_of l p ≡ refused type_large = message_strange l p (kinds_in l p) refl h ∙ ap refused k in
    (rw m refl, rw m refl, simp (ne_eqb (kinds_in l p) 0 h) (ap number k))

-- so too where they are sealed, and where a body is written alone
or_first : (k m : ℕ) → (k ≡ 0 → ⊥) → or_else k m ≡ k
or_first zero m h = absurd (h refl)
or_first (suc k) m h = refl

module _ (l : Lent) where
  strange_content_lem : (ev : Bool) (b : Content) → (content_kinds ev l.lists.kinds l.lists.spans b ≡ 0 → ⊥) → type_large ≡ content_refusal ev l b
  unfolding content_refusal content_kinds verdict_of
  strange_content_lem ev Empty h = absurd (h refl)
  strange_content_lem ev (Sealed r) h = absurd (h refl)
  strange_content_lem ev (Open k r) h = absurd (h refl)
  strange_content_lem ev (Items n) h = sym (or_first _ _ h ∙ kinds_29 ev l.lists.kinds l.lists.spans n h)

  body_strange : (ev : Bool) (b : Content) (f : Writing) → (content_kinds ev l.lists.kinds l.lists.spans b ≡ 0 → ⊥) → unless_refused (content_refusal ev l b) f ≡ refused type_large
  body_strange ev b f h = sym (is_refused type_large (content_refusal ev l b) f (strange_content_lem ev b h) (λ z. omega arith))

  wire_strange : (q : Payload) → (payload_kinds l.lists.kinds l.lists.spans q ≡ 0 → ⊥) → payload_wire l q ≡ refused type_large
  unfolding payload_wire payload_kinds event_wire command_wire stamped_wire content_wire
  wire_strange (payload.Uplink u) h = absurd (h refl)
  wire_strange (payload.Downlink u) h = absurd (h refl)
  wire_strange (payload.Event u) h = ap (headed_by (stamp u.timestamp u.relay_id)) (body_strange true u.events _ h)
  wire_strange (payload.Command u) h = ap (headed_by (stamp u.timestamp u.relay_id)) (body_strange false u.commands _ h)

  seal_strange : (key : List ℕ) (p : MeshPacket) (q : Payload) (o : List ℕ) → (payload_kinds l.lists.kinds l.lists.spans q ≡ 0 → ⊥) → mesh_says (mesh_sealed key l p q o) ≡ number type_large
  unfolding mesh_sealed payload_kinds event_seal command_seal content_seal event_sealed command_sealed answer_of
  seal_strange key p (payload.Uplink u) o h = absurd (h refl)
  seal_strange key p (payload.Downlink u) o h = absurd (h refl)
  seal_strange key p (payload.Event u) o h = ap (λ (f : Writing). mesh_says (of_event_sealed p (event_sealed u (answer_of f o)))) (body_strange true u.events _ h)
  seal_strange key p (payload.Command u) o h = ap (λ (f : Writing). mesh_says (of_command_sealed p (command_sealed u (answer_of f o)))) (body_strange false u.commands _ h)

  pub strange_kind_not_sealed : (key : List ℕ) (p : MeshPacket) (o : List ℕ) → (kinds_in l p ≡ 0 → ⊥) → mesh_says (mesh_sealed key l p p.payload o) ≡ number type_large
  strange_kind_not_sealed key p o h = seal_strange key p p.payload o h

  pub strange_kind_not_written_alone : (p : MeshPacket) (o : List ℕ) → (kinds_in l p ≡ 0 → ⊥) → written_says (answer_of (limited_of (payload_wire l p.payload)) o) ≡ number type_large
  unfolding answer_of
  strange_kind_not_written_alone p o h = ap (λ (f : Writing). written_says (answer_of (limited_of f) o)) (wire_strange p.payload h)

-- 4.12
pub validating_wants_a_mic : (E : List ℕ → List ℕ) (l : Lent) (p : MeshPacket) → kinds_in l p ≡ 0 → p.has_mic ≡ false → valid_says (validate_mic E l p) ≡ number mic_missing
unfolding validate_mic
validating_wants_a_mic E l p k e = simp (eq-eqb (kinds_in l p) 0 k, e)

validating_by : (E : List ℕ → List ℕ) (m : ℕ) (p : MeshPacket) (f : Writing) → number_in (valid_says (compared_by E m f)) ≡ number_in (mesh_says (signed_by E p f))
validating_by E m p (refused n) = refl
validating_by E m p (bytes w) = by (eqb m (mic_of E w)) where
  by : (t : Bool) → number_in (valid_says (pick t Valid Invalid)) ≡ 0
  by true = refl
  by false = refl

pub validating_refuses_as_signing : (E : List ℕ → List ℕ) (l : Lent) (p : MeshPacket) → p.has_mic ≡ true → number_in (valid_says (validate_mic E l p)) ≡ number_in (mesh_says (set_mic E l p))
unfolding validate_mic set_mic signed_of fitting
validating_refuses_as_signing E l p e = by (eqb (kinds_in l p) 0) refl
  where
    by : (t : Bool) → eqb (kinds_in l p) 0 ≡ t
        → number_in (valid_says (pick t (pick p.has_mic (compared_by E p.mic (fitting (message_of l p))) (NotValidated mic_missing)) (NotValidated (kinds_in l p))))
        ≡ number_in (mesh_says (signed_by E p (fitting (message_of l p))))
    by true q = simp e (validating_by E p.mic p (fitting (message_of l p)))
    by false q = rw (message_strange l p (kinds_in l p) refl (eqb-false _ _ q)) refl

-- 4.4 in a frame: behind a good run and other fields, what the frequency is refused with is what the downlink is refused with where its body is
-- written alone, and behind a good header where it is written whole, signed, or, with a MIC, validated
module _ (l : Lent) (p : MeshPacket) (u : DownlinkPayload) (n : ℕ) (kind : p.payload ≡ payload.Downlink u) (inside : run_refusal (length l.frame) u.phy_payload ≡ 0)
    (fields : down_refusal u.metadata ≡ 0) (frequency : steps_says (exact_steps u.metadata.frequency) ≡ number n) where
  no_body : payload_wire l p.payload ≡ refused n
  unfolding payload_wire downlink_wire downlink_head down_wire
  no_body =
      let m = u.metadata in
      let s = steps_refused (exact_steps m.frequency) n frequency in
      let d : down_wire m ≡ refused n = sym (not_refused (down_refusal m) _ fields) ∙ ap (λ (x : StepsRead). after_freq m (steps_wire x)) s in
      ap (payload_wire l) kind
      ∙ sym (not_refused (run_refusal (length l.frame) u.phy_payload) _ inside)
      ∙ ap (λ (f : Writing). followed (followed f (be_bytes 4 u.relay_id)) (run_bytes l.frame u.phy_payload)) d

  no_kinds : kinds_in l p ≡ 0
  unfolding payload_kinds
  no_kinds = ap (payload_kinds l.lists.kinds l.lists.spans) kind

  no_message : (b : ℕ) → byte_says (header_byte p.mhdr) ≡ value b → message_of l p ≡ refused n
  unfolding message_of
  no_message b header =
      sym (not_refused (kinds_in l p) _ no_kinds)
      ∙ ap (behind (header_byte p.mhdr)) no_body
      ∙ ap (λ (h : HeaderByte). behind h (refused n)) (byte_said (header_byte p.mhdr) b header)

  pub downlink_body_refused : (o : List ℕ) → written_says (answer_of (limited_of (payload_wire l p.payload)) o) ≡ number n
  unfolding answer_of
  downlink_body_refused o = rw no_body refl

  pub downlink_frequency_refused : (b : ℕ) → byte_says (header_byte p.mhdr) ≡ value b → (E : List ℕ → List ℕ) (o : List ℕ)
      → (written_says (answer_of (mesh_frame l p) o) ≡ number n) × (mesh_says (set_mic E l p) ≡ number n)
      × (p.has_mic ≡ true → valid_says (validate_mic E l p) ≡ number n)
  unfolding mesh_frame with_mic answer_of set_mic signed_of fitting validate_mic
  downlink_frequency_refused b header E o =
      let m = no_message b header in (
        rw m refl,
        rw m refl,
        λ e. simp (eq-eqb (kinds_in l p) 0 no_kinds, e) (rw m refl),
      )

-- what is signed is valid under the same key, and with any other MIC it is not
module _ (E : List ℕ → List ℕ) (l : Lent) (p : MeshPacket) where
  same_message : (m : ℕ) → message_of l (carrying_mic p m) ≡ message_of l p
  unfolding message_of
  same_message m = refl

  known : (w : List ℕ) → fitting (message_of l p) ≡ bytes w → kinds_in l p ≡ 0
  unfolding fitting
  known w g = by (eqb (kinds_in l p) 0) refl
    where
      by : (t : Bool) → eqb (kinds_in l p) 0 ≡ t → kinds_in l p ≡ 0
      by true q = eqb-true _ _ q
      by false q =
          let y : refused (kinds_in l p) ≡ bytes w = sym (ap fitting (message_strange l p (kinds_in l p) refl (eqb-false _ _ q))) ∙ g in
          let z : ◌≡◌ {A = ℕ} 0 1 = cc in absurd (omega arith)

  valid_by : (m : ℕ) (f : Writing) → fitting (message_of l p) ≡ f → (q : MeshPacket) → signed_by E p f ≡ Mesh q → (m' : ℕ) → valid_says (validate_mic E l (carrying_mic p m')) ≡ value (eqb m' q.mic)
  unfolding validate_mic signed_of
  valid_by m (refused n) g q e m' = let z : ◌≡◌ {A = ℕ} 0 1 = cc in absurd (omega arith)
  valid_by m (bytes w) g q e m' =
      let y : carrying_mic p (mic_of E w) ≡ q = cc in
      simp (eq-eqb (kinds_in l p) 0 (known w g)) (rw (same_message m', g) (rw (← y) (by (eqb m' (mic_of E w)))))
    where
      by : (t : Bool) → valid_says (pick t Valid Invalid) ≡ value t
      by true = refl
      by false = refl

  pub valid_exactly_with_its_mic : (q : MeshPacket) → mesh_says (set_mic E l p) ≡ value q → (m : ℕ) → valid_says (validate_mic E l (carrying_mic p m)) ≡ value (eqb m q.mic)
  unfolding set_mic signed_of
  valid_exactly_with_its_mic q e m = valid_by m (fitting (message_of l p)) refl q (mesh_said (set_mic E l p) q e) m

-- 5.18: signing and validating do not look at odd bits
module _ (E : List ℕ → List ℕ) (l : Lent) (p : MeshPacket) where
  even_signed : signed_of l (even_mesh p) ≡ signed_of l p
  unfolding signed_of
  even_signed = ap fitting (even_message l p)

  pub odd_bits_are_not_signed : (q : MeshPacket) → mesh_says (set_mic E l p) ≡ value q → mesh_says (set_mic E l (even_mesh p)) ≡ value (even_mesh q)
  unfolding set_mic
  odd_bits_are_not_signed q e = ap (λ (w : Writing). mesh_says (signed_by E (even_mesh p) w)) even_signed ∙ by (signed_of l p) e
    where
      by : (w : Writing) → mesh_says (signed_by E p w) ≡ value q → mesh_says (signed_by E (even_mesh p) w) ≡ value (even_mesh q)
      by (refused n) h = let z : ◌≡◌ {A = ℕ} 0 1 = cc in absurd (omega arith)
      by (bytes w) h = let y : carrying_mic p (mic_of E w) ≡ q = cc in rw (← y) refl

  pub odd_bits_are_not_validated : valid_says (validate_mic E l (even_mesh p)) ≡ valid_says (validate_mic E l p)
  unfolding validate_mic
  odd_bits_are_not_validated = rw (even_kinds l p, even_signed) refl
