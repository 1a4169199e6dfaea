-- What is written of an open payload from a place on, by what the reader answers there; and the loop of `put_kept` over it, on plain values.
-- Assumes nothing.
use Prim.Native.Nat.{ℕ, ◌+◌, ◌-◌, ◌≤◌, ◌<◌}
use native.Mathlib.Omega.{arith}
use mathlib.Core.Bool.{Bool}
use mathlib.Core.Path.{◌≡◌, refl, sym, ap, ap₂, ◌∙◌}
use mathlib.Core.List.{List, [], ◌++◌}
use lib.ListN.{length, get_or, drop, length-append, length-drop, drop_of_length-le}
use lib.Seq.{length-take-le}
use Rattle.wire.specs.Lay.{put}
use Rattle.wire.specs.Part.{part_of}
use Rattle.wire.specs.declared.run.Run.{Run}
use Rattle.wire.proofs.Laws.Lay.{Joining, joining_none, joining_room, joining_same, joining_more, joining_done}
use Rattle.items.specs.Items.{is_beat, pieces, item_at, next_of}
use Rattle.items.specs.declared.item.ItemRead.{ItemRead}
use Rattle.items.specs.declared.item.Item.{Item}
use Rattle.items.specs.declared.item.ItemRead.TheVariants.{Kept, Skipped, Cut, End, Refused}
use Rattle.items.proofs.Laws.{turn, kept_value, no_pieces}
use Rattle.kept_items.specs.Kept.{item_bytes, kept_wire, open_bytes}
use Rattle.kept_items.proofs.Laws.{item_length}

-- ---- from a place on

module _ (ev : Bool) (s : List ℕ) (p : ℕ) where
  module _ (i : Item) (nx : ℕ) (e : item_at ev s p ≡ Kept i nx) where
    module _ (b : Bool) (v : List ℕ) (be : b ≡ is_beat ev i.tag) (ve : v ≡ part_of s i.value.start i.value.len) where
      pub kept_size : nx - p ≡ length (item_bytes b i.tag v)
      kept_size =
          let u = turn ev s p _ e in
          let h : get_or s (p + 1) 0 ≤ length (drop (p + 2) s) = simp length-drop (omega arith) in
          let l = length-take-le (get_or s (p + 1) 0) (drop (p + 2) s) h in
          let m = item_length b i.tag v in
          let k = ap length (ve ∙ kept_value ev s p i nx e) in
          omega arith

      pub kept_ahead : kept_wire ev (pieces ev 0 (drop p s)) ≡ item_bytes b i.tag v ++ kept_wire ev (pieces ev 0 (drop nx s))
      unfolding kept_wire
      kept_ahead =
          let u = turn ev s p _ e in
          let t = ap (λ (x : Item). x.tag) u.0 in
          ap (kept_wire ev) u.3
          ∙ ap₂ (λ (a : ℕ) (w : List ℕ). item_bytes (is_beat ev a) a w ++ kept_wire ev (pieces ev 0 (drop nx s))) (sym t) (sym (ve ∙ kept_value ev s p i nx e))
          ∙ ap (λ (x : Bool). item_bytes x i.tag v ++ kept_wire ev (pieces ev 0 (drop nx s))) (sym be)

  pub skipped_ahead : (i : Item) (nx : ℕ) → item_at ev s p ≡ Skipped i nx → kept_wire ev (pieces ev 0 (drop p s)) ≡ kept_wire ev (pieces ev 0 (drop nx s))
  unfolding kept_wire
  skipped_ahead i nx e = ap (kept_wire ev) (turn ev s p _ e).3

  pub cut_ahead : (r : Run) (nx : ℕ) → item_at ev s p ≡ Cut r nx → kept_wire ev (pieces ev 0 (drop p s)) ≡ []
  unfolding kept_wire
  cut_ahead r nx e = ap (kept_wire ev) (turn ev s p _ e).3

  pub end_ahead : (nx : ℕ) → item_at ev s p ≡ End nx → kept_wire ev (pieces ev 0 (drop p s)) ≡ []
  unfolding kept_wire
  end_ahead nx e = ap (kept_wire ev) (turn ev s p _ e).2

  pub all_ahead : length s ≤ p → kept_wire ev (pieces ev 0 (drop p s)) ≡ []
  unfolding kept_wire
  all_ahead h = ap (λ (l : List ℕ). kept_wire ev (pieces ev 0 l)) (drop_of_length-le s h) ∙ ap (kept_wire ev) (no_pieces ev)

-- ---- the loop: what is still to be laid is the kept items from `p` on

pub record Sofar (ev : Bool) (s o₀ : List ℕ) (at : ℕ) (out : List ℕ) (p o : ℕ) : Type 0 where
  pub within : p ≤ length s
  pub laid : Joining o₀ at (open_bytes ev s) out o (kept_wire ev (pieces ev 0 (drop p s)))

pub none_yet : (ev : Bool) (s o₀ : List ℕ) (at : ℕ) → at + length (open_bytes ev s) ≤ length o₀ → Sofar ev s o₀ at o₀ 0 0
unfolding open_bytes
none_yet ev s o₀ at h = record { within = omega arith; laid = joining_none o₀ at (open_bytes ev s) h }

module _ (ev : Bool) (s o₀ : List ℕ) (at : ℕ) (out : List ℕ) (p o : ℕ) (f : Sofar ev s o₀ at out p o) where
  module _ (i : Item) (nx : ℕ) (e : item_at ev s p ≡ Kept i nx) where
    -- the sum does not go beyond the buffer
    pub room : (nx ≡ p + (2 + i.value.len)) × (at + o + (2 + i.value.len) ≤ length o₀) × (length (part_of s i.value.start i.value.len) ≡ i.value.len) × (length out ≡ length o₀)
    room =
        let v = part_of s i.value.start i.value.len in
        let u = turn ev s p _ e in
        let n = ap (λ (x : Item). x.value.len) u.0 in
        let r = joining_room _ _ _ _ _ _ f.laid in
        let a = ap length (kept_ahead ev s p i nx e (is_beat ev i.tag) v refl refl) in
        let b = length-append (item_bytes (is_beat ev i.tag) i.tag v) (kept_wire ev (pieces ev 0 (drop nx s))) in
        let z = kept_size ev s p i nx e (is_beat ev i.tag) v refl refl in
        let m = item_length (is_beat ev i.tag) i.tag v in
        (omega arith, omega arith, omega arith, joining_same _ _ _ _ _ _ f.laid)

    pub one_kept : (b : Bool) (v out2 : List ℕ) → b ≡ is_beat ev i.tag → v ≡ part_of s i.value.start i.value.len
        → out2 ≡ put out (at + o) (item_bytes b i.tag v) → Sofar ev s o₀ at out2 nx (o + (2 + i.value.len))
    one_kept b v out2 be ve q =
        let u = turn ev s p _ e in
        let z = kept_size ev s p i nx e b v be ve in
        let g : 2 + i.value.len ≡ length (item_bytes b i.tag v) = let r = room in omega arith in
        record {
          within = u.2;
          laid = joining_more _ _ _ _ _ _ f.laid (item_bytes b i.tag v) _ out2 (2 + i.value.len) (kept_ahead ev s p i nx e b v be ve) g q;
        }

  -- what is not kept changes nothing
  pub none_kept : (r : ItemRead) → item_at ev s p ≡ r → p < length s → ((i : Item) (nx : ℕ) → r ≡ Kept i nx → ⊥) → Sofar ev s o₀ at out (next_of r) o
  none_kept (Kept i nx) e h k = absurd (k i nx refl)
  none_kept (Skipped i nx) e h k =
      let u = turn ev s p _ e in
      record { within = u.2; laid = rw (skipped_ahead ev s p i nx e) at f.laid }
  none_kept (Cut r nx) e h k =
      let u = turn ev s p _ e in
      let m : length s ≤ nx = omega arith in
      record { within = omega arith; laid = rw (cut_ahead ev s p r nx e ∙ sym (all_ahead ev s nx m)) at f.laid }
  none_kept (End nx) e h k = let u = turn ev s p _ e in absurd (omega arith)
  none_kept (Refused n) e h k = absurd (turn ev s p _ e)

  pub at_end : length s ≤ p → out ≡ put o₀ at (open_bytes ev s)
  at_end h = joining_done _ _ _ _ _ _ f.laid (all_ahead ev s p h)
