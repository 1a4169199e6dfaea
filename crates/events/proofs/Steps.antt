-- The steps that writing an event or a command takes, over any content, output and lent lists. Assumes nothing.
use Prim.Native.Nat.{ℕ, ◌+◌, ◌≤◌, ◌<◌}
use native.Mathlib.Omega.{arith}
use mathlib.Core.Bool.{Bool, true, false}
use mathlib.Core.Path.{◌≡◌, refl, sym, ap, ◌∙◌}
use mathlib.Core.List.{List, [], ◌∷◌, ◌++◌}
use lib.ListN.{length, length-append}
use borrow.Author.Tests.{lt-ltb, le-ltb}
use Rattle.base.specs.Numbers.{frame_long, output_short, mic_missing}
use Rattle.base.specs.Answers.{Writing, bytes, refused}
use Rattle.base.specs.declared.Written.{Written}
use Rattle.base.specs.declared.Written.TheVariants.{Bytes, Refused}
use Rattle.base.proofs.Answers.{room, no_room, is_refused, not_refused}
use Rattle.wire.specs.Lay.{put}
use Rattle.wire.specs.Number.{be_bytes}
use Rattle.wire.proofs.Laws.Lay.{put_front, two_puts}
use Rattle.wire.proofs.Laws.Number.{be_length}
use Rattle.composed_items.specs.inner.Passes.{capped}
use Rattle.composed_items.proofs.Laws.{capped_is, capped_over}
use Rattle.links.specs.Write.{prefixed, limited, limited_of, with_mic, headed_by}
use Rattle.links.proofs.Steps.{Outcome, refuses, same_frame, body_refused, frame_refused, no_mic, frame_long_lem, frame_whole, four_length, four_puts}
use Rattle.contents.specs.Content.{Lent, content_refusal, content_bytes, content_wire}
use Rattle.events.specs.Write.{stamp, stamped_wire}
use Rattle.events.specs.declared.stamped.Stamped.{Stamped}
use Rattle.events.proofs.Laws.{stamp_length}

-- ---- a length that stands for any larger one

pub capped_small : (n m : ℕ) → n ≡ capped m → n ≤ 8179 → n ≡ m
capped_small n m e h = capped_is n m e (omega arith)

pub capped_large : (n m : ℕ) → n ≡ capped m → 8179 < n → 8179 < m
capped_large n m e h = let k : 8179 < 0 + m = capped_over 0 8179 n m (omega arith) e (omega arith) in omega arith

-- ---- a head of eight bytes and a payload

module _ (h v o : List ℕ) (l : length h ≡ 8) where
  long : length (h ++ v) ≡ 8 + length v
  long = let a = length-append h v in omega arith

  whole : length v ≤ 8179 → limited (h ++ v) ≡ bytes (h ++ v)
  unfolding limited
  whole k = let a = long in simp (le-ltb 8187 (length (h ++ v)) (omega arith))

  over : 8179 < length v → limited (h ++ v) ≡ refused frame_long
  unfolding limited
  over k = let a = long in simp (lt-ltb 8187 (length (h ++ v)) (omega arith))

  both_short : length o < 8 + length v → Outcome (Refused output_short) o (bytes (h ++ v)) o
  both_short k = let a = long in let r = no_room (h ++ v) o (omega arith) in (sym r.0, sym r.1)

  both_laid : (x y : List ℕ) → 8 + length v ≤ length o → x ≡ put o 0 h → y ≡ put x 8 v → Outcome (Bytes (8 + length v)) y (bytes (h ++ v)) o
  both_laid x y k p q =
      let a = long in
      let r = room (h ++ v) o (omega arith) in
      (ap Bytes (sym a) ∙ sym r.0, q ∙ ap (λ (z : List ℕ). put z 8 v) p ∙ two_puts o h v 8 l (omega arith) ∙ put_front o (h ++ v) (omega arith))

  -- the frame around them
  module _ (first mic : ℕ) (m : List ℕ) (e : m ≡ be_bytes 4 mic) where
    framed : List ℕ
    framed = (first ∷ []) ++ h ++ v ++ m

    framed_long : length framed ≡ 13 + length v
    unfolding framed
    framed_long = let a = four_length o (first ∷ []) h v m in let b = ap length e ∙ be_length 4 mic in omega arith

    framed_is : (has : Bool) → has ≡ true → length v ≤ 8179 → with_mic has mic (bytes (first ∷ (h ++ v))) ≡ bytes framed
    unfolding framed
    framed_is has t k = frame_whole has mic first h v m e t (omega arith)

    framed_short : length o < 13 + length v → Outcome (Refused output_short) o (bytes framed) o
    framed_short k = let a = framed_long in let r = no_room framed o (omega arith) in (sym r.0, sym r.1)

    framed_laid : (x y z w : List ℕ) → 13 + length v ≤ length o → x ≡ put o 0 (first ∷ []) → y ≡ put x 1 h → z ≡ put y 9 v → w ≡ put z (9 + length v) m
        → Outcome (Bytes (13 + length v)) w (bytes framed) o
    unfolding framed
    framed_laid x y z w k ex ey ez ew =
        let a = framed_long in
        let r = room framed o (omega arith) in
        let n : 9 ≡ length (first ∷ []) + length h = omega arith in
        let c : 9 + length v ≡ length (first ∷ []) + length h + length v = omega arith in
        (ap Bytes (sym a) ∙ sym r.0, four_puts o (first ∷ []) h v m (omega arith) x y z w ex ey (ez ∙ ap (λ (i : ℕ). put y i v) n) (ew ∙ ap (λ (i : ℕ). put z i m) c))

-- ---- a body, and the frame around it

module _ (ev : Bool) (l : Lent) (p : Stamped) (o : List ℕ) (k : ℕ) (ek : k ≡ content_refusal ev l p.content) where
  wire_refused : (k ≡ 0 → ⊥) → stamped_wire ev l p ≡ refused k
  unfolding stamped_wire content_wire
  wire_refused h = ap (headed_by (stamp p.timestamp p.relay_id)) (sym (is_refused k _ (bytes (content_bytes ev l p.content)) ek h))

  wire_bytes : k ≡ 0 → stamped_wire ev l p ≡ bytes (stamp p.timestamp p.relay_id ++ content_bytes ev l p.content)
  unfolding stamped_wire content_wire
  wire_bytes h = ap (headed_by (stamp p.timestamp p.relay_id)) (sym (not_refused (content_refusal ev l p.content) (bytes (content_bytes ev l p.content)) (sym ek ∙ h)))

  pub write_refused : (k ≡ 0 → ⊥) → Outcome (Refused k) o (limited_of (stamped_wire ev l p)) o
  write_refused h = body_refused (stamped_wire ev l p) k o (wire_refused h)

  pub in_refused : (has : Bool) (mic first : ℕ) → (k ≡ 0 → ⊥) → Outcome (Refused k) o (with_mic has mic (prefixed first (stamped_wire ev l p))) o
  in_refused has mic first h = frame_refused has mic first (stamped_wire ev l p) k o (wire_refused h)

  module _ (z : k ≡ 0) where
    head : List ℕ
    head = stamp p.timestamp p.relay_id

    body : List ℕ
    body = content_bytes ev l p.content

    as_body : (r : Written) (x : List ℕ) (f : Writing) → limited (head ++ body) ≡ f → Outcome r x f o → Outcome r x (limited_of (stamped_wire ev l p)) o
    unfolding head body
    as_body r x f e = same_frame _ f r x o (ap limited_of (wire_bytes z) ∙ e)

    as_frame : (has : Bool) (mic first : ℕ) (r : Written) (x : List ℕ) (f : Writing) → with_mic has mic (bytes (first ∷ (head ++ body))) ≡ f → Outcome r x f o
        → Outcome r x (with_mic has mic (prefixed first (stamped_wire ev l p))) o
    unfolding head body
    as_frame has mic first r x f e = same_frame _ f r x o (ap (λ (g : Writing). with_mic has mic (prefixed first g)) (wire_bytes z) ∙ e)

    eight : length head ≡ 8
    unfolding head
    eight = stamp_length p.timestamp p.relay_id

    pub in_no_mic : (has : Bool) (mic first : ℕ) → has ≡ false → Outcome (Refused mic_missing) o (with_mic has mic (prefixed first (stamped_wire ev l p))) o
    in_no_mic has mic first e = as_frame has mic first _ _ (refused mic_missing) (no_mic has mic first head body e) (refuses (refused mic_missing) mic_missing o refl)

    module _ (n : ℕ) (en : n ≡ capped (length (content_bytes ev l p.content))) where
      pub write_long : 8179 < n → Outcome (Refused frame_long) o (limited_of (stamped_wire ev l p)) o
      unfolding body
      write_long h = as_body _ _ (refused frame_long) (over head body o eight (capped_large n _ en h)) (refuses (refused frame_long) frame_long o refl)

      pub in_long : (has : Bool) (mic first : ℕ) → has ≡ true → 8179 < n → Outcome (Refused frame_long) o (with_mic has mic (prefixed first (stamped_wire ev l p))) o
      unfolding body
      in_long has mic first e h =
          let g : 8179 < length body = capped_large n _ en h in
          let b = eight in
          as_frame has mic first _ _ (refused frame_long) (frame_long_lem has mic first head body e (omega arith)) (refuses (refused frame_long) frame_long o refl)

      module _ (few : n ≤ 8179) where
        same : n ≡ length body
        unfolding body
        same = capped_small n _ en few

        pub write_short : length o < 8 + n → Outcome (Refused output_short) o (limited_of (stamped_wire ev l p)) o
        write_short h =
            let s = same in
            as_body _ _ (bytes (head ++ body)) (whole head body o eight (omega arith)) (both_short head body o eight (omega arith))

        pub write_done : (h x y : List ℕ) → 8 + n ≤ length o → h ≡ stamp p.timestamp p.relay_id → x ≡ put o 0 h → y ≡ put x 8 (content_bytes ev l p.content)
            → Outcome (Bytes (8 + n)) y (limited_of (stamped_wire ev l p)) o
        unfolding head body
        write_done h x y g eh ex ey =
            let s = same in
            rw s (as_body _ _ (bytes (head ++ body)) (whole head body o eight (omega arith))
            (both_laid head body o eight x y (omega arith) (ex ∙ ap (put o 0) eh) ey))

        module _ (has : Bool) (mic first : ℕ) (t : has ≡ true) where
          pub in_short : length o < 13 + n → Outcome (Refused output_short) o (with_mic has mic (prefixed first (stamped_wire ev l p))) o
          in_short h =
              let s = same in
              as_frame has mic first _ _ _ (framed_is head body o eight first mic (be_bytes 4 mic) refl has t (omega arith)) (framed_short head body o eight first mic (be_bytes 4 mic) refl (omega arith))

          pub in_done : (h m w x y q : List ℕ) → 13 + n ≤ length o → h ≡ stamp p.timestamp p.relay_id → m ≡ be_bytes 4 mic
              → w ≡ put o 0 (first ∷ []) → x ≡ put w 1 h → y ≡ put x 9 (content_bytes ev l p.content) → q ≡ put y (9 + n) m
              → Outcome (Bytes (13 + n)) q (with_mic has mic (prefixed first (stamped_wire ev l p))) o
          unfolding head body
          in_done h m w x y q g eh em ew ex ey eq =
              let s = same in
              rw s (as_frame has mic first _ _ _ (framed_is head body o eight first mic m em has t (omega arith))
              (framed_laid head body o eight first mic m em w x y q (omega arith) ew (ex ∙ ap (put w 1) eh) ey (eq ∙ ap (λ (i : ℕ). put y (9 + i) m) s)))
