-- The loop of `count_items`, on plain values: what has been counted, with what the pieces from `at` on still hold, is what all hold.
-- Assumes nothing.
use Prim.Native.Nat.{ℕ, ◌+◌, ◌≤◌}
use native.Mathlib.Omega.{arith}
use mathlib.Core.Bool.{Bool, false, ◌&&◌, and-true, and-false, and_assoc}
use mathlib.Core.Path.{◌≡◌, refl, sym, ap, ap₂, ◌∙◌}
use mathlib.Core.List.{List, []}
use lib.ListN.{length, get_or, drop, length-drop, drop_of_length-le}
use lib.Seq.{length-take-le}
use Rattle.wire.specs.Part.{part_of}
use Rattle.wire.specs.declared.run.Run.{Run}
use Rattle.items.specs.declared.item.Item.{Item}
use Rattle.items.specs.declared.item.ItemRead.TheVariants.{Kept, Skipped, Cut}
use Rattle.items.specs.declared.count.Opening.{Opening}
use Rattle.items.specs.Items.{pieces, item_at, opening_of, nothing, kept_items, skipped_items, kept_bytes, skipped_bytes, cut_bytes, kept_clean, is_clean}
use Rattle.items.proofs.Laws.{turn, kept_value, no_pieces}

pub record Sofar (ev : Bool) (s : List ℕ) (at : ℕ) (o : Opening) : Type 0 where
  pub within : at ≤ length s
  pub bytes : o.kept_bytes + o.skipped_bytes + o.cut_bytes ≡ at
  pub few : o.kept + o.skipped ≤ at
  pub kept : o.kept + kept_items (pieces ev 0 (drop at s)) ≡ kept_items (pieces ev 0 s)
  pub skipped : o.skipped + skipped_items (pieces ev 0 (drop at s)) ≡ skipped_items (pieces ev 0 s)
  pub kept_bytes_lem : o.kept_bytes + kept_bytes (pieces ev 0 (drop at s)) ≡ kept_bytes (pieces ev 0 s)
  pub skipped_bytes_lem : o.skipped_bytes + skipped_bytes (pieces ev 0 (drop at s)) ≡ skipped_bytes (pieces ev 0 s)
  pub cut_bytes_lem : o.cut_bytes + cut_bytes (pieces ev 0 (drop at s)) ≡ cut_bytes (pieces ev 0 s)
  pub clean : (o.clean && is_clean ev (pieces ev 0 (drop at s))) ≡ is_clean ev (pieces ev 0 s)

pub none_yet : (ev : Bool) (s : List ℕ) → Sofar ev s 0 nothing
none_yet ev s =
    record {
      within = omega arith;
      bytes = refl;
      few = omega arith;
      kept = omega arith;
      skipped = omega arith;
      kept_bytes_lem = omega arith;
      skipped_bytes_lem = omega arith;
      cut_bytes_lem = omega arith;
      clean = refl;
    }

module _ (ev : Bool) (s : List ℕ) (at : ℕ) (o : Opening) (f : Sofar ev s at o) where
  lost : is_clean ev (pieces ev 0 (drop at s)) ≡ false → false ≡ is_clean ev (pieces ev 0 s)
  lost e = sym (and-false o.clean) ∙ ap (λ (x : Bool). o.clean && x) (sym e) ∙ f.clean

  pub one_kept : (i : Item) (nx : ℕ) → item_at ev s at ≡ Kept i nx → (v : List ℕ) → v ≡ part_of s i.value.start i.value.len
      → (b : Bool) → b ≡ kept_clean ev i.tag v → Sofar ev s nx (record o { kept = o.kept + 1; kept_bytes = o.kept_bytes + (2 + i.value.len); clean = o.clean && b })
  one_kept i nx e v ve b be =
      let u = turn ev s at _ e in
      let h : get_or s (at + 1) 0 ≤ length (drop (at + 2) s) = simp length-drop (omega arith) in
      let l = length-take-le (get_or s (at + 1) 0) (drop (at + 2) s) h in
      let n = ap (λ (x : Item). x.value.len) u.0 in
      let a = ap kept_items u.3 in
      let y = ap skipped_items u.3 in
      let c = ap kept_bytes u.3 in
      let d = ap skipped_bytes u.3 in
      let g = ap cut_bytes u.3 in
      record {
        within = omega arith;
        bytes = omega arith;
        few = omega arith;
        kept = omega arith;
        skipped = omega arith;
        kept_bytes_lem = omega arith;
        skipped_bytes_lem = omega arith;
        cut_bytes_lem = omega arith;
        clean =
            and_assoc o.clean b _ ∙ ap (λ (x : Bool). o.clean && (x && is_clean ev (pieces ev 0 (drop nx s)))) (be ∙ ap₂ (kept_clean ev) (ap (λ (x : Item). x.tag) u.0) (ve ∙ kept_value ev s at i nx e))
            ∙ ap (λ (x : Bool). o.clean && x) (sym (ap (is_clean ev) u.3)) ∙ f.clean;
      }

  pub one_skipped : (i : Item) (nx : ℕ) → item_at ev s at ≡ Skipped i nx → Sofar ev s nx (record o { skipped = o.skipped + 1; skipped_bytes = o.skipped_bytes + (2 + i.value.len); clean = false })
  one_skipped i nx e =
      let u = turn ev s at _ e in
      let h : get_or s (at + 1) 0 ≤ length (drop (at + 2) s) = simp length-drop (omega arith) in
      let l = length-take-le (get_or s (at + 1) 0) (drop (at + 2) s) h in
      let n = ap (λ (x : Item). x.value.len) u.0 in
      let a = ap kept_items u.3 in
      let y = ap skipped_items u.3 in
      let c = ap kept_bytes u.3 in
      let d = ap skipped_bytes u.3 in
      let g = ap cut_bytes u.3 in
      record {
        within = omega arith;
        bytes = omega arith;
        few = omega arith;
        kept = omega arith;
        skipped = omega arith;
        kept_bytes_lem = omega arith;
        skipped_bytes_lem = omega arith;
        cut_bytes_lem = omega arith;
        clean = lost (ap (is_clean ev) u.3);
      }

  -- nothing stands from the end on
  rest : length s ≤ at → pieces ev 0 (drop at s) ≡ []
  rest h = ap (pieces ev 0) (drop_of_length-le s h) ∙ no_pieces ev

  pub at_end : length s ≤ at → o ≡ opening_of ev s
  unfolding opening_of
  at_end h =
      let u = rest h in
      let a = ap kept_items u in
      let b = ap skipped_items u in
      let c = ap kept_bytes u in
      let d = ap skipped_bytes u in
      let g = ap cut_bytes u in
      let p : o.kept ≡ kept_items (pieces ev 0 s) = omega arith in
      let q : o.skipped ≡ skipped_items (pieces ev 0 s) = omega arith in
      let t : o.kept_bytes ≡ kept_bytes (pieces ev 0 s) = omega arith in
      let v : o.skipped_bytes ≡ skipped_bytes (pieces ev 0 s) = omega arith in
      let w : o.cut_bytes ≡ cut_bytes (pieces ev 0 s) = omega arith in
      let z : o.clean ≡ is_clean ev (pieces ev 0 s) = sym (and-true o.clean) ∙ ap (λ (x : Bool). o.clean && x) (sym (ap (is_clean ev) u)) ∙ f.clean in
      let fields : o ≡ record { kept = o.kept; skipped = o.skipped; kept_bytes = o.kept_bytes; skipped_bytes = o.skipped_bytes; cut_bytes = o.cut_bytes; clean = o.clean } = refl in
      cc

module _ (ev : Bool) (s : List ℕ) (at : ℕ) (o : Opening) (f : Sofar ev s at o) where
  pub one_cut : (r : Run) (nx : ℕ) → item_at ev s at ≡ Cut r nx → Sofar ev s nx (record o { cut_bytes = o.cut_bytes + r.len; clean = false })
  one_cut r nx e =
      let u = turn ev s at _ e in
      let l = length-drop at s in
      let m : length s ≤ nx = omega arith in
      let k = ap (pieces ev 0) (drop_of_length-le s m) ∙ no_pieces ev in
      let n = ap (λ (x : Run). x.len) u.0 in
      let a = ap kept_items u.3 in
      let y = ap skipped_items u.3 in
      let c = ap kept_bytes u.3 in
      let d = ap skipped_bytes u.3 in
      let g = ap cut_bytes u.3 in
      let a2 = ap kept_items k in
      let y2 = ap skipped_items k in
      let c2 = ap kept_bytes k in
      let d2 = ap skipped_bytes k in
      let g2 = ap cut_bytes k in
      record {
        within = omega arith;
        bytes = omega arith;
        few = omega arith;
        kept = omega arith;
        skipped = omega arith;
        kept_bytes_lem = omega arith;
        skipped_bytes_lem = omega arith;
        cut_bytes_lem = omega arith;
        clean = lost ev s at o f (ap (is_clean ev) u.3);
      }

  pub at_cut : (r : Run) (nx : ℕ) → item_at ev s at ≡ Cut r nx → record o { cut_bytes = o.cut_bytes + r.len; clean = false } ≡ opening_of ev s
  at_cut r nx e =
      let u = turn ev s at _ e in
      let m : length s ≤ nx = omega arith in
      at_end ev s nx _ (one_cut r nx e) m
