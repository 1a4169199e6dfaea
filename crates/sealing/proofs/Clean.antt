-- A payload that was opened is written again as it was exactly if its opening was clean. Assumes nothing.
use Prim.Native.Nat.{ℕ}
use native.Mathlib.Omega.{arith}
use mathlib.Core.Bool.{Bool, true, false}
use mathlib.Core.Path.{◌≡◌, refl, sym, ap, ◌∙◌}
use mathlib.Core.List.{List, ◌++◌}
use lib.Dec.{ltb, eqb}
use lib.ListN.{length, drop}
use borrow.Author.Tests.{eqb-true}
use Rattle.base.specs.Pick.{pick}
use Rattle.base.specs.Lists.{Bytes}
use Rattle.base.specs.Numbers.{frame_long, output_short, payload_most}
use Rattle.base.specs.Answers.{bytes, out_of}
use Rattle.base.proofs.Answers.{not_refused}
use Rattle.wire.specs.Run.{run_refusal, run_bytes}
use Rattle.wire.specs.declared.run.Run.{Run}
use Rattle.items.specs.Items.{opening_of}
use Rattle.items.specs.declared.count.Opening.{Opening}
use Rattle.kept_items.specs.Kept.{open_bytes}
use Rattle.kept_items.proofs.Laws.{none_open}
use Rattle.kept_items.proofs.Clean.{clean_as_written}
use Rattle.composed_items.specs.Composed.{Lists}
use Rattle.contents.specs.Content.{Lent, framed, work, held_in, content_refusal, content_bytes, content_wire}
use Rattle.contents.specs.declared.content.Held.{Held}
use Rattle.contents.specs.declared.content.Held.TheVariants.{Frame as InFrame, Work as InWork}
use Rattle.contents.specs.declared.content.Content.{Content}
use Rattle.contents.specs.declared.content.Content.TheVariants.{Empty, Sealed, Open}
use Rattle.sealing.specs.Open.{opened_as, seal_wire, opened_by, read_sealed, decrypt_of, work_after, decode_of}
use Rattle.sealing.specs.declared.content.Opened.TheVariants.{Opened as Now, Refused}
use Rattle.sealing.proofs.Laws.{front, front_inside, front_bytes}

-- the content c, written, is s exactly if the opening o is clean
abbrev pub CleanAsWritten : Bool → Lent → List ℕ → Content → Opening → Type 0
CleanAsWritten ev l s c o = (o.clean ≡ true → content_wire ev l c ≡ bytes s) × (content_wire ev l c ≡ bytes s → o.clean ≡ true)

-- of the payload s, which lies where the content says
module _ (ev : Bool) (l : Lent) (h : Held) (r : Run) (lies : run_refusal (length (held_in h l.frame (work l))) r ≡ 0) (s : List ℕ) (is : run_bytes (held_in h l.frame (work l)) r ≡ s) where
  written : content_wire ev l (pick (eqb (opening_of ev s).kept 0) Empty (Open h r)) ≡ bytes (open_bytes ev s)
  unfolding content_wire content_refusal content_bytes
  written = by (eqb (opening_of ev s).kept 0) refl
    where
      by : (t : Bool) → eqb (opening_of ev s).kept 0 ≡ t → content_wire ev l (pick t Empty (Open h r)) ≡ bytes (open_bytes ev s)
      by true e = ap bytes (sym (none_open ev s (eqb-true (opening_of ev s).kept 0 e)))
      by false e =
          sym (not_refused (run_refusal (length (held_in h l.frame (work l))) r) (bytes (open_bytes ev (run_bytes (held_in h l.frame (work l)) r))) lies)
          ∙ ap (λ (v : List ℕ). bytes (open_bytes ev v)) is

  opened_clean : Bytes s → (c : Content) (o : Opening) → opened_as h r (opening_of ev s) ≡ Now c o → CleanAsWritten ev l s c o
  opened_clean b c o e =
      let k : pick (eqb (opening_of ev s).kept 0) Empty (Open h r) ≡ c = cc in
      let n : opening_of ev s ≡ o = cc in
      let w = clean_as_written ev s b in
      rw (← k, ← n) (λ q. written ∙ ap bytes (w.0 q), λ q. let z = sym written ∙ q in w.1 (cc))

-- `decrypt`, into the work buffer w
pub decrypted_clean : (key : List ℕ) (ev : Bool) (relay time : ℕ) (r : Run) (f w s : List ℕ) (x : Lists) (c : Content) (o : Opening)
    → seal_wire key ev relay time f r ≡ bytes s → Bytes s → x.src ≡ work_after key ev relay time (Sealed r) f w
    → decrypt_of key ev relay time (Sealed r) f w ≡ Now c o → CleanAsWritten ev (framed f x) s c o
unfolding decrypt_of work_after opened_by out_of
decrypted_clean key ev relay time r f w s x c o e b m d = by (ltb (length w) (length s)) (rw e at m) (rw e at d)
  where
    by : (t : Bool) → x.src ≡ pick t w (s ++ drop (length s) w) → pick t (Refused output_short) (opened_as InWork (front s w) (opening_of ev s)) ≡ Now c o
        → CleanAsWritten ev (framed f x) s c o
    by true p q = let z : ◌≡◌ {A = ℕ} 0 1 = cc in absurd (omega arith)
    by false p q =
        opened_clean ev (framed f x) InWork (front s w) (rw p (front_inside s (drop (length s) w))) s (rw p (front_bytes s (drop (length s) w))) b c o q

-- `decode`, in the frame as it stands
pub decoded_clean : (ev : Bool) (r : Run) (f w : List ℕ) (x : Lists) (c : Content) (o : Opening) → Bytes (run_bytes f r)
    → decode_of ev (Sealed r) f w ≡ Now c o → CleanAsWritten ev (framed f x) (run_bytes f r) c o
unfolding decode_of read_sealed
decoded_clean ev r f w x c o b d = by (eqb (run_refusal (length f) r) 0) (ltb payload_most r.len) refl d
  where
    by : (t u : Bool) → eqb (run_refusal (length f) r) 0 ≡ t
        → pick t (pick u (Refused frame_long) (opened_as InFrame r (opening_of ev (run_bytes f r)))) (Refused (run_refusal (length f) r)) ≡ Now c o
        → CleanAsWritten ev (framed f x) (run_bytes f r) c o
    by true true p q = let z : ◌≡◌ {A = ℕ} 0 1 = cc in absurd (omega arith)
    by true false p q = opened_clean ev (framed f x) InFrame r (eqb-true _ 0 p) (run_bytes f r) refl b c o q
    by false u p q = let z : ◌≡◌ {A = ℕ} 0 1 = cc in absurd (omega arith)
