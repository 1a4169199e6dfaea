-- The steps that the writers' proofs share, each over any head, run and output. Assumes nothing.
use Prim.Native.Nat.{ℕ, ◌+◌, ◌-◌, ◌≤◌, ◌<◌}
use native.Mathlib.Omega.{arith}
use mathlib.Core.Bool.{Bool, true, false}
use mathlib.Core.Path.{◌≡◌, refl, sym, ap, ◌∙◌}
use mathlib.Core.List.{List, [], ◌∷◌, ◌++◌, append-nil}
use lib.ListN.{length, get_or, replicate, length-append}
use borrow.Author.Tests.{lt-ltb, le-ltb}
use Rattle.base.specs.Numbers.{frame_long, mic_missing}
use Rattle.base.specs.Answers.{Writing, bytes, refused, checked_of, bytes_or, answer_of, out_of}
use Rattle.base.specs.declared.Checked.TheVariants.{Accepted, Refused as No}
use Rattle.base.specs.declared.Written.{Written}
use Rattle.base.specs.declared.Written.TheVariants.{Refused}
use Rattle.wire.specs.Lay.{put}
use Rattle.wire.specs.Number.{be_bytes}
use Rattle.wire.proofs.Laws.Lay.{put_front, two_puts}
use Rattle.base.proofs.Answers.{is_refused, not_refused}
use Rattle.fields.specs.Meta.{up_of, down_of}
use Rattle.fields.specs.declared.meta.UplinkMetadata.{UplinkMetadata}
use Rattle.fields.specs.declared.meta.DownlinkMetadata.{DownlinkMetadata}
use Rattle.wire.specs.Run.{run_refusal, run_bytes}
use Rattle.links.specs.Read.{four_at, uplink_at, downlink_at}
use Rattle.links.specs.Write.{followed, prefixed, limited, limited_of, with_mic, with_run}
use Rattle.wire.specs.declared.run.Run.{Run}
use Rattle.links.specs.declared.uplink.UplinkRead.TheVariants.{Payload as AnUplink}
use Rattle.links.specs.declared.downlink.DownlinkRead.TheVariants.{Payload as ADownlink}

-- ---- a body that is neither too long nor too short

module _ (at : ℕ) (b : List ℕ) (h : length b ≤ 8187) where
  pub uplink_is : 9 ≤ length b → (m : UplinkMetadata) (r : ℕ)
      → m ≡ up_of (get_or b 0 0 ∷ get_or b 1 0 ∷ get_or b 2 0 ∷ get_or b 3 0 ∷ get_or b 4 0 ∷ []) → r ≡ four_at b 5
      → AnUplink (record { metadata = m; relay_id = r; phy_payload = record { start = 9 + at; len = length b - 9 } }) ≡ uplink_at at b
  unfolding uplink_at
  uplink_is l m r em er = rw (em, er) (simp (le-ltb 8187 (length b) h, le-ltb (length b) 9 l))

  pub downlink_is : 10 ≤ length b → (m : DownlinkMetadata) (r : ℕ)
      → m ≡ down_of (get_or b 0 0 ∷ get_or b 1 0 ∷ get_or b 2 0 ∷ get_or b 3 0 ∷ get_or b 4 0 ∷ get_or b 5 0 ∷ []) → r ≡ four_at b 6
      → ADownlink (record { metadata = m; relay_id = r; phy_payload = record { start = 10 + at; len = length b - 10 } }) ≡ downlink_at at b
  unfolding downlink_at
  downlink_is l m r em er = rw (em, er) (simp (le-ltb 8187 (length b) h, le-ltb (length b) 10 l))

-- ---- what a writer answers and leaves

abbrev pub Outcome : Written → List ℕ → Writing → List ℕ → Type 0
Outcome r x f o = (r ≡ answer_of f o) × (x ≡ out_of f o)

pub refuses : (f : Writing) (k : ℕ) (o : List ℕ) → f ≡ refused k → Outcome (Refused k) o f o
unfolding answer_of out_of
refuses f k o e = rw e (refl, refl)

pub same_frame : (f g : Writing) (r : Written) (x o : List ℕ) → f ≡ g → Outcome r x g o → Outcome r x f o
same_frame f g r x o e h = rw e h

-- ---- four runs laid one behind the other

module _ (o a b c d : List ℕ) where
  pub four_length : length (a ++ b ++ c ++ d) ≡ length a + length b + length c + length d
  four_length = simp length-append

  pub four_puts : length (a ++ b ++ c ++ d) ≤ length o
      → (x y z w : List ℕ) → x ≡ put o 0 a → y ≡ put x (length a) b → z ≡ put y (length a + length b) c → w ≡ put z (length a + length b + length c) d
      → w ≡ out_of (bytes (a ++ b ++ c ++ d)) o
  four_puts h x y z w ex ey ez ew =
      let l2 = length-append a b in
      let l3 = length-append (a ++ b) c in
      let l4 = length-append (a ++ b ++ c) d in
      let fy : y ≡ put o 0 (a ++ b) = ey ∙ rw ex (two_puts o a b (length a) refl (omega arith)) in
      let fz : z ≡ put o 0 (a ++ b ++ c) = ez ∙ rw fy (two_puts o (a ++ b) c (length a + length b) l2 (omega arith)) in
      ew ∙ rw fz (two_puts o (a ++ b ++ c) d (length a + length b + length c) (l3 ∙ ap (λ (n : ℕ). n + length c) l2) h) ∙ put_front o (a ++ b ++ c ++ d) h

-- ---- the limit, and the MIC

module _ (h p : List ℕ) where
  pub body_long : 8187 < length h + length p → limited (h ++ p) ≡ refused frame_long
  unfolding limited
  body_long l = rw (length-append h p) (simp (lt-ltb 8187 (length h + length p) l))

  pub body_whole : length h + length p ≤ 8187 → limited (h ++ p) ≡ bytes ([] ++ h ++ p ++ [])
  unfolding limited
  body_whole l = rw (append-nil (h ++ p)) (rw (length-append h p) (simp (le-ltb 8187 (length h + length p) l)))

module _ (has : Bool) (mic first : ℕ) (h p : List ℕ) where
  pub no_mic : has ≡ false → with_mic has mic (bytes (first ∷ (h ++ p))) ≡ refused mic_missing
  unfolding with_mic
  no_mic e = rw e

  long_is : length (first ∷ (h ++ p)) ≡ 1 + (length h + length p)
  long_is = let l = length-append h p in omega arith

  pub frame_long_lem : has ≡ true → 8187 < length h + length p → with_mic has mic (bytes (first ∷ (h ++ p))) ≡ refused frame_long
  unfolding with_mic
  frame_long_lem e l = let n = long_is in rw e (simp (lt-ltb 8188 (length (first ∷ (h ++ p))) (omega arith)))

  pub frame_whole : (m : List ℕ) → m ≡ be_bytes 4 mic → has ≡ true → length h + length p ≤ 8187
      → with_mic has mic (bytes (first ∷ (h ++ p))) ≡ bytes ((first ∷ []) ++ h ++ p ++ m)
  unfolding with_mic
  frame_whole m q e l = let n = long_is in rw (e, q) (simp (le-ltb 8188 (length (first ∷ (h ++ p))) (omega arith)))

-- ---- a head, answered beside its bytes

module _ (n : ℕ) (f : Writing) (v : List ℕ) where
  pub head_refused : (k : ℕ) → f ≡ refused k → (No k ≡ checked_of (followed f v)) × (replicate n 0 ≡ bytes_or n (followed f v))
  head_refused k e = rw e (refl, refl)

  pub head_accepted : (w : List ℕ) → f ≡ bytes w → (Accepted ≡ checked_of (followed f v)) × (w ++ v ≡ bytes_or n (followed f v))
  head_accepted w e = rw e (refl, refl)

-- ---- a head with a run behind it

module _ (s : List ℕ) (r : Run) (f : Writing) where
  pub run_outside : (k : ℕ) → k ≡ run_refusal (length s) r → (k ≡ 0 → ⊥) → with_run s r f ≡ refused k
  run_outside k e h = sym (is_refused k (run_refusal (length s) r) _ e h)

  pub run_inside : (k : ℕ) → k ≡ run_refusal (length s) r → k ≡ 0 → with_run s r f ≡ followed f (run_bytes s r)
  run_inside k e h = sym (not_refused (run_refusal (length s) r) _ (sym e ∙ h))

  pub run_no_head : (k n : ℕ) → k ≡ run_refusal (length s) r → k ≡ 0 → f ≡ refused n → with_run s r f ≡ refused n
  run_no_head k n e h q = run_inside k e h ∙ ap (λ (x : Writing). followed x (run_bytes s r)) q

  pub run_behind : (k : ℕ) (w v : List ℕ) → k ≡ run_refusal (length s) r → k ≡ 0 → f ≡ bytes w → v ≡ run_bytes s r → with_run s r f ≡ bytes (w ++ v)
  run_behind k w v e h q p = run_inside k e h ∙ ap (λ (x : Writing). followed x (run_bytes s r)) q ∙ ap (λ (x : List ℕ). bytes (w ++ x)) (sym p)

-- ---- a body, and the frame around it

pub body_refused : (f : Writing) (k : ℕ) (o : List ℕ) → f ≡ refused k → Outcome (Refused k) o (limited_of f) o
body_refused f k o e = refuses (limited_of f) k o (ap limited_of e)

pub body_written : (f : Writing) (w : List ℕ) (r : Written) (x o : List ℕ) → f ≡ bytes w → Outcome r x (limited w) o → Outcome r x (limited_of f) o
body_written f w r x o e = same_frame (limited_of f) (limited w) r x o (ap limited_of e)

module _ (has : Bool) (mic first : ℕ) where
  pub frame_refused : (f : Writing) (k : ℕ) (o : List ℕ) → f ≡ refused k → Outcome (Refused k) o (with_mic has mic (prefixed first f)) o
  unfolding with_mic
  frame_refused f k o e = refuses (with_mic has mic (prefixed first f)) k o (ap (λ (g : Writing). with_mic has mic (prefixed first g)) e)

  pub frame_written : (f : Writing) (w : List ℕ) (r : Written) (x o : List ℕ) → f ≡ bytes w
      → Outcome r x (with_mic has mic (bytes (first ∷ w))) o → Outcome r x (with_mic has mic (prefixed first f)) o
  frame_written f w r x o e = same_frame _ _ r x o (ap (λ (g : Writing). with_mic has mic (prefixed first g)) e)
