-- The steps of opening a content, over any run, payload and work buffer, and of sealing one, over any output and lent lists. Assumes nothing.
use Prim.Native.Nat.{ℕ, ◌-◌, ◌≤◌, ◌<◌}
use native.Mathlib.Omega.{arith}
use mathlib.Core.Bool.{Bool, true, false, not}
use mathlib.Core.Path.{◌≡◌, refl, sym, ap, ◌∙◌}
use mathlib.Core.List.{List, ◌++◌}
use lib.Dec.{ltb}
use lib.ListN.{length, take, drop, length-append}
use lib.Seq.{take_at}
use borrow.Author.Tests.{eq-eqb, ne_eqb, le-ltb}
use Rattle.base.specs.Pick.{pick}
use Rattle.base.specs.Numbers.{frame_long, output_short}
use Rattle.base.specs.Blocks.{Block}
use Rattle.base.specs.Answers.{Writing, bytes, refused, answer_of, out_of}
use Rattle.base.specs.declared.Written.{Written}
use Rattle.base.specs.declared.Written.TheVariants.{Bytes, Refused as NotWritten}
use Rattle.base.proofs.Answers.{not_refused, is_refused as unless_refused_lem}
use Rattle.wire.specs.Lay.{put}
use Rattle.wire.specs.Part.{part_of}
use Rattle.wire.specs.Run.{run_refusal, run_bytes}
use Rattle.wire.specs.declared.run.Run.{Run}
use Rattle.cipher.specs.inner.Words.{prepared, enciphered}
use Rattle.key_stream.specs.Stream.{numbered, streamed, sealed_of}
use Rattle.key_stream.proofs.Turns.{too_long_lem, too_short, sealed_in}
use Rattle.items.specs.Items.{opening_of}
use Rattle.composed_items.specs.inner.Passes.{capped}
use Rattle.links.proofs.Steps.{Outcome, refuses, same_frame}
use Rattle.contents.specs.Content.{Lent, content_refusal, content_bytes}
use Rattle.contents.specs.declared.content.Content.{Content}
use Rattle.contents.specs.declared.content.Held.TheVariants.{Work as InWork}
use Rattle.events.proofs.Steps.{capped_small, capped_large}
use Rattle.sealing.specs.declared.content.Opened.{Opened}
use Rattle.sealing.specs.declared.content.Opened.TheVariants.{Refused}
use Rattle.sealing.specs.Open.{refused_or, opened_as, opened_by, seal_wire}
use Rattle.sealing.specs.Seal.{content_seal}

-- a refusal that is asked, and one that is passed
pub is_refused : (n : ℕ) (x : Opened) (k : ℕ) → k ≡ n → (k ≡ 0 → ⊥) → Refused k ≡ refused_or n x
is_refused n x k e h = ap Refused e ∙ sym (ap (λ (t : Bool). pick t x (Refused n)) (ne_eqb n 0 (λ z. h (e ∙ z))))

pub is_passed : (n : ℕ) (x : Opened) (k : ℕ) → k ≡ n → k ≡ 0 → x ≡ refused_or n x
is_passed n x k e h = sym (ap (λ (t : Bool). pick t x (Refused n)) (eq-eqb n 0 (sym e ∙ h)))

-- ---- a sealed run's bytes, written into the work buffer

-- what lies at the front
pub part_front : (c rest : List ℕ) → part_of (c ++ rest) 0 (length c) ≡ c
unfolding part_of
part_front c rest =
    let l = length-append c rest in
    let a : 0 ≤ length (c ++ rest) = omega arith in
    let b : length c ≤ length (c ++ rest) - 0 = omega arith in
    simp (le-ltb (length (c ++ rest)) 0 a, le-ltb (length (c ++ rest) - 0) (length c) b) (take_at c rest (length c) refl)

module _ (ev : Bool) (w : List ℕ) where
  pub not_opened : (f : Writing) (k : ℕ) → NotWritten k ≡ answer_of f w → Refused k ≡ opened_by ev f w
  unfolding answer_of opened_by
  not_opened (refused n) k e = cc
  not_opened (bytes c) k e = by (ltb (length w) (length c)) e
    where
      by : (t : Bool) → NotWritten k ≡ pick t (NotWritten output_short) (Bytes (length c))
          → Refused k ≡ pick t (Refused output_short) (opened_as InWork (record { start = 0; len = length c }) (opening_of ev c))
      by true q = cc
      by false q = let z : ◌≡◌ {A = ℕ} 0 1 = cc in absurd (omega arith)

  -- what is counted is the clear bytes, which lie at the front
  pub now_opened : (f : Writing) (n : ℕ) (x : List ℕ) (r : Opened) → Bytes n ≡ answer_of f w → x ≡ out_of f w
      → r ≡ opened_as InWork (record { start = 0; len = n }) (opening_of ev (part_of x 0 n)) → r ≡ opened_by ev f w
  unfolding answer_of opened_by out_of
  now_opened (refused k) n x r e p q = let z : ◌≡◌ {A = ℕ} 0 1 = cc in absurd (omega arith)
  now_opened (bytes c) n x r e p q = by (ltb (length w) (length c)) refl e p
    where
      by : (t : Bool) → ltb (length w) (length c) ≡ t → Bytes n ≡ pick t (NotWritten output_short) (Bytes (length c)) → x ≡ pick t w (c ++ drop (length c) w)
          → r ≡ pick t (Refused output_short) (opened_as InWork (record { start = 0; len = length c }) (opening_of ev c))
      by true h e2 p2 = let z : ◌≡◌ {A = ℕ} 0 1 = cc in absurd (omega arith)
      by false h e2 p2 =
          let k : n ≡ length c = cc in
          let a : part_of x 0 n ≡ c = rw (p2, k) (part_front c (drop (length c) w)) in
          q ∙ ap (λ (v : List ℕ). opened_as InWork (record { start = 0; len = n }) (opening_of ev v)) a
          ∙ ap (λ (m : ℕ). opened_as InWork (record { start = 0; len = m }) (opening_of ev c)) k

  pub frame_refused : (f : Writing) (k : ℕ) → refused k ≡ f → (Refused k ≡ opened_by ev f w) × (w ≡ out_of f w)
  unfolding opened_by out_of
  frame_refused f k e = rw (← e) (refl, refl)

-- the run lies inside: what is sealed is its bytes. `encrypt_events_commands` asks whether it is a command
twice_not : (b : Bool) → not (not b) ≡ b
twice_not true = refl
twice_not false = refl

pub seal_is : (key : List ℕ) (ev : Bool) (relay time : ℕ) (f : List ℕ) (r : Run) (k : ℕ) (v : List ℕ) → k ≡ run_refusal (length f) r → k ≡ 0 → v ≡ run_bytes f r
    → sealed_of key (not (not ev)) relay time v ≡ seal_wire key ev relay time f r
seal_is key ev relay time f r k v e h q =
    ap (λ (b : Bool). sealed_of key b relay time v) (twice_not ev)
    ∙ ap (sealed_of key ev relay time) q
    ∙ not_refused (run_refusal (length f) r) (sealed_of key ev relay time (run_bytes f r)) (sym e ∙ h)

-- ---- a content, written and with the stream added

module _ (key : List ℕ) (ev : Bool) (relay time : ℕ) (l : Lent) (b : Content) (o : List ℕ) (k : ℕ) (ek : k ≡ content_refusal ev l b) where
  abbrev clear : List ℕ
  clear = content_bytes ev l b

  abbrev sealed : Writing
  sealed = sealed_of key ev relay time clear

  pub seal_refused : (k ≡ 0 → ⊥) → Outcome (NotWritten k) o (content_seal key ev relay time l b) o
  unfolding content_seal
  seal_refused h = refuses _ k o (sym (unless_refused_lem k _ sealed ek h))

  module _ (z : k ≡ 0) (n : ℕ) (en : n ≡ capped (length (content_bytes ev l b))) where
    -- what is answered of the bytes is answered of the content
    as_content : (a : Written) (x : List ℕ) → Outcome a x sealed o → Outcome a x (content_seal key ev relay time l b) o
    unfolding content_seal
    as_content a x = same_frame _ sealed a x o (sym (not_refused (content_refusal ev l b) sealed (sym ek ∙ z)))

    pub seal_long : 8179 < n → Outcome (NotWritten frame_long) o (content_seal key ev relay time l b) o
    seal_long h = as_content (NotWritten frame_long) o (too_long_lem key ev relay time clear o (capped_large n _ en h))

    pub seal_short : n ≤ 8179 → length o < n → Outcome (NotWritten output_short) o (content_seal key ev relay time l b) o
    seal_short f h =
        let s : n ≡ length (content_bytes ev l b) = capped_small n _ en f in
        as_content (NotWritten output_short) o (too_short key ev relay time clear o (omega arith) (omega arith))

    pub seal_done : Block key → n ≤ 8179 → n ≤ length o → {x y e : List ℕ} → x ≡ put o 0 (content_bytes ev l b) → e ≡ prepared key
        → y ≡ streamed (enciphered e) (numbered ev relay time) (take n x) → Outcome (Bytes n) (y ++ drop n x) (content_seal key ev relay time l b) o
    seal_done c f g {x} {y} {e} ex ee ey =
        let s : n ≡ length (content_bytes ev l b) = capped_small n _ en f in
        let i = sealed_in key ev relay time clear o c (omega arith) (omega arith) {l = x} {x = y} {e = e} ex ee
        (ey ∙ ap (λ (j : ℕ). streamed (enciphered e) (numbered ev relay time) (take j x)) s) in
        rw s (as_content (Bytes (length (content_bytes ev l b))) (y ++ drop (length (content_bytes ev l b)) x) i)
