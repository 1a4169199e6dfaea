-- Laws of items as they are written, and of an open payload. Assumes nothing.
use Prim.Native.Nat.{ℕ, ◌+◌, ◌%◌, ◌<◌, ◌≤◌}
use native.Mathlib.Nat.{add-zero}
use native.Mathlib.Omega.{arith}
use mathlib.Core.Bool.{Bool, false}
use mathlib.Core.Path.{◌≡◌, refl, sym, ap, ◌∙◌}
use mathlib.Core.List.{List, [], ◌∷◌, ◌++◌}
use lib.ListN.{length, get_or, set, length-append}
use Rattle.base.specs.Lists.{imap}
use Rattle.base.proofs.Lists.{imap_length, imap_at, imap_id}
use Rattle.wire.specs.Lay.{put}
use Rattle.wire.proofs.Laws.Lay.{put_none, puts_join, Laying, laying_none, laying_more, laying_done}
use Rattle.items.specs.Items.{is_beat, Piece, kept, skipped, cut, pieces, kept_items, kept_bytes, opening_of}
use Rattle.items.specs.declared.count.Opening.{Opening}
use Rattle.kept_items.specs.Kept.{fixed, item_bytes, kept_wire, open_bytes}

-- a value that is no heartbeat's is written as it is
pub fixed_plain : (v : List ℕ) → imap (fixed false) 0 v ≡ v
unfolding fixed
fixed_plain v = imap_id (fixed false) 0 v (λ k x. refl)

-- ---- lengths

pub item_length : (beat : Bool) (t : ℕ) (v : List ℕ) → length (item_bytes beat t v) ≡ 2 + length v
unfolding item_bytes
item_length beat t v = let l = imap_length (fixed beat) 0 v in omega arith

pub kept_length : (ev : Bool) (ps : List Piece) → length (kept_wire ev ps) ≡ kept_bytes ps
unfolding kept_wire
kept_length ev [] = refl
kept_length ev (kept t v ∷ ps) =
    let i = item_length (is_beat ev t) t v in
    let h = kept_length ev ps in
    length-append (item_bytes (is_beat ev t) t v) (kept_wire ev ps) ∙ omega arith
kept_length ev (skipped v ∷ ps) = kept_length ev ps
kept_length ev (cut v ∷ ps) = kept_length ev ps

pub open_length : (ev : Bool) (s : List ℕ) → length (open_bytes ev s) ≡ kept_bytes (pieces ev 0 s)
unfolding open_bytes
open_length ev s = kept_length ev (pieces ev 0 s)

-- nothing is written of what keeps no item
none_kept : (ev : Bool) (ps : List Piece) → kept_items ps ≡ 0 → kept_wire ev ps ≡ []
unfolding kept_wire
none_kept ev [] e = refl
none_kept ev (kept t v ∷ ps) e = absurd (omega arith)
none_kept ev (skipped v ∷ ps) e = none_kept ev ps e
none_kept ev (cut v ∷ ps) e = none_kept ev ps e

pub none_open : (ev : Bool) (s : List ℕ) → (opening_of ev s).kept ≡ 0 → open_bytes ev s ≡ []
unfolding opening_of open_bytes
none_open ev s e = none_kept ev (pieces ev 0 s) e

-- what an opening reports of the kept bytes is how many are written
pub told : (ev : Bool) (s : List ℕ) (r : Opening) → r ≡ opening_of ev s → r.kept_bytes ≡ length (open_bytes ev s)
unfolding opening_of
told ev s r e = ap (λ (x : Opening). x.kept_bytes) e ∙ sym (open_length ev s)

-- ---- one value, and one item, laid

module _ (beat : Bool) (v o : List ℕ) (at : ℕ) where
  pub value_more : (out : List ℕ) (i x : ℕ) → at + length v ≤ length o → i < length v → x ≡ fixed beat i (get_or v i 0)
      → Laying o at (imap (fixed beat) 0 v) out i → Laying o at (imap (fixed beat) 0 v) (set out (at + i) x) (i + 1)
  value_more out i x h k e l =
      let n = imap_length (fixed beat) 0 v in
      laying_more o at (imap (fixed beat) 0 v) (omega arith) out i x (omega arith) (e ∙ sym (imap_at (fixed beat) v i k)) l

-- two bytes, one after the other
pub head_put : (o : List ℕ) (at t n : ℕ) → at + 2 ≤ length o → set (set o at t) (at + 1) n ≡ put o at (t ∷ n ∷ [])
head_put o at t n h =
    let w = t ∷ n ∷ [] in
    let a = laying_more o at w h o 0 t (omega arith) refl (laying_none o at w) in
    laying_done o at w h _ 2 (omega arith) (laying_more o at w h _ 1 n (omega arith) refl (rw add-zero at a))

module _ (beat : Bool) (t : ℕ) (v o : List ℕ) (at : ℕ) where
  pub item_none : length o < at + (2 + length v) → o ≡ put o at (item_bytes beat t v)
  item_none h = let l = item_length beat t v in sym (put_none o at (item_bytes beat t v) (omega arith))

  pub item_laid : (n : ℕ) (x y : List ℕ) → at + (2 + length v) ≤ length o → n ≡ length v % 256 → x ≡ put o at (t ∷ n ∷ []) → y ≡ put x (at + 2) (imap (fixed beat) 0 v)
      → y ≡ put o at (item_bytes beat t v)
  unfolding item_bytes
  item_laid n x y h e p q =
      let l = imap_length (fixed beat) 0 v in
      let m : n ≡ length (imap (fixed beat) 0 v) % 256 = e ∙ ap (λ (k : ℕ). k % 256) (sym l) in
      let g : at + length ((t ∷ n ∷ []) ++ imap (fixed beat) 0 v) ≤ length o = omega arith in
      q ∙ ap (λ (z : List ℕ). put z (at + 2) (imap (fixed beat) 0 v)) p ∙ puts_join o at (t ∷ n ∷ []) (imap (fixed beat) 0 v) (at + 2) refl g
      ∙ ap (λ (k : ℕ). put o at (t ∷ k ∷ imap (fixed beat) 0 v)) m
