-- The items that reading lists, composed again as they were read, are written as the open payload itself is. Assumes nothing.
use Prim.Native.Nat.{ℕ, zero, suc, ◌+◌, ◌≤◌, ◌<◌, min}
use native.Mathlib.Nat.{le_of_suc-le-suc, not-suc-le-zero, zero-add}
use native.Mathlib.Omega.{arith}
use mathlib.Core.Bool.{Bool, true, false}
use mathlib.Core.Path.{◌≡◌, refl, sym, ap, ap₂, ◌∙◌}
use mathlib.Core.List.{List, [], ◌∷◌, ◌++◌, map}
use lib.Dec.{eqb}
use lib.ListN.{length, get_or, drop, length-map}
use borrow.Author.Tests.{le-ltb, eqb-true}
use Rattle.base.specs.Pick.{pick}
use Rattle.base.specs.Lists.{Bytes, from, first_of, joined}
use Rattle.base.specs.Answers.{bytes}
use Rattle.base.proofs.Answers.{not_refused}
use Rattle.wire.specs.Part.{reach_number, part_of}
use Rattle.wire.specs.Run.{run_refusal}
use Rattle.wire.proofs.Laws.Part.{inside}
use Rattle.heartbeats.specs.Paths.{paths}
use Rattle.items.specs.Items.{is_beat, kind_of, kind_code, item_of, item_at, next_of, kept_before, listed_by, listed_items, pieces}
use Rattle.items.specs.declared.item.Item.{Item}
use Rattle.items.specs.declared.item.ItemKind.TheVariants.{Heartbeat, Proprietary}
use Rattle.items.specs.declared.item.ItemRead.{ItemRead}
use Rattle.items.specs.declared.item.ItemRead.TheVariants.{Kept, Skipped, Cut, End, Refused}
use Rattle.items.proofs.Laws.{turn, nearer, stays, kept_whole}
use Rattle.kept_items.specs.Kept.{item_bytes, kept_wire, open_bytes}
use Rattle.kept_items.proofs.Loop.{kept_ahead, skipped_ahead, cut_ahead, end_ahead}
use Rattle.composed_items.specs.Composed.{Lists, tag_of, item_count, item_in, items_in, is_path, bad_kind, outside_of, bad_path, long_of, uneven_of, kinds_refusal, verdict_of, value_of, item_wire, composed_bytes, composed_wire, kind_and_tag, place_and_length, lent_back}
use Rattle.composed_items.specs.declared.Composed.{Composed}

-- an item that was read, as the lists have it
abbrev again : Item → Composed
again i = record { kind = kind_code i.kind; tag = tag_of (kind_code i.kind) i.tag; place = i.value.start; len = i.value.len }

-- ---- the lists hold each item at its place

at_map : {A B : Type 0} (f : A → B) (xs : List A) (i : ℕ) (d : A) (z : B) → i < length xs → get_or (map f xs) i z ≡ f (get_or xs i d)
at_map f [] i d z h = absurd (not-suc-le-zero h)
at_map f (x ∷ xs) zero d z h = refl
at_map f (x ∷ xs) (suc i) d z h = at_map f xs i d z (le_of_suc-le-suc h)

from_map : {A B : Type 0} (f : A → B) (g : ℕ → B) (xs : List A) (k : ℕ) (d : A) → ((i : ℕ) → i < length xs → g (k + i) ≡ f (get_or xs i d)) → from (length xs) k g ≡ map f xs
from_map f g [] k d h = refl
from_map f g (x ∷ xs) k d h =
    let a : k + 0 ≡ k = omega arith in
    ap₂ ◌∷◌ (ap g (sym a) ∙ h 0 (omega arith))
    (from_map f g xs (suc k) d (λ i l. (let b : suc k + i ≡ k + suc i = omega arith in ap g b) ∙ h (suc i) (omega arith)))

module _ (ev : Bool) (s : List ℕ) where
  abbrev L : List Item
  L = listed_items ev s

  abbrev l : Lists
  l = record { kinds = map kind_and_tag L; spans = map place_and_length L; entries = paths [] [] []; src = s }

  the_item : (d : Item) (i : ℕ) → i < length L → item_in l i ≡ again (get_or L i d)
  the_item d i h = rw (at_map kind_and_tag L i d [] h, at_map place_and_length L i d [] h)

  all_items : (d : Item) → items_in l (length L) ≡ map again L
  all_items d =
      let a = length-map L kind_and_tag in
      let b = length-map L place_and_length in
      let n : min (length L) (item_count l) ≡ length L = omega arith in
      ap (λ (m : ℕ). from m 0 (item_in l)) n ∙ from_map again (item_in l) L 0 d (λ i h. ap (item_in l) (zero-add i) ∙ the_item d i h)

-- ---- an item that was kept

module _ (ev : Bool) (t : ℕ) where
  code_by : (e z : Bool) → ev ≡ e → eqb t 0 ≡ z
      → (pick e (eqb (kind_code (pick (pick e z false) Heartbeat Proprietary)) 3) false ≡ false)
      × (pick (eqb (kind_code (pick (pick e z false) Heartbeat Proprietary)) 2) t 0 ≡ t)
      × (◌≡◌ {A = ℕ} (pick (eqb (kind_code (pick (pick e z false) Heartbeat Proprietary)) 2) 0
      (pick e (pick (eqb (kind_code (pick (pick e z false) Heartbeat Proprietary)) 1) 0
      (pick (eqb (kind_code (pick (pick e z false) Heartbeat Proprietary)) 3) 0 29)) 29)) 0)
  code_by true true p q = (refl, sym (eqb-true t 0 q), refl)
  code_by true false p q = (refl, refl, refl)
  code_by false z p q = (refl, refl, refl)

module _ (ev : Bool) (s : List ℕ) (small : Bytes s) (x : Lists) (held : x.src ≡ s) (at : ℕ) (i : Item) (nx : ℕ) (e : item_at ev s at ≡ Kept i nx) where
  abbrev t : ℕ
  t = get_or s at 0

  abbrev j : Item
  j = item_of ev s at

  same : i ≡ j
  same = (turn ev s at _ e).0

  no_path_lem : is_path ev (again j) ≡ false
  unfolding kind_of
  no_path_lem = (code_by ev t ev (eqb t 0) refl refl).0

  its_tag : (again j).tag ≡ t
  unfolding kind_of tag_of
  its_tag = (code_by ev t ev (eqb t 0) refl refl).1

  its_kind : bad_kind ev (again j) ≡ 0
  unfolding kind_of bad_kind
  its_kind = (code_by ev t ev (eqb t 0) refl refl).2

  lies : outside_of ev x (again j) ≡ 0
  unfolding outside_of run_refusal
  lies = let u = turn ev s at _ e in rw (no_path_lem, held) (ap reach_number (inside (length s) (at + 2) (get_or s (at + 1) 0) (omega arith)))

  good : bad_path ev x (again j) ≡ 0
  unfolding bad_path
  good = rw no_path_lem refl

  short : long_of ev (again j) ≡ 0
  unfolding long_of
  short = let b = small (at + 1) in rw no_path_lem (simp (le-ltb 255 (get_or s (at + 1) 0) (omega arith)))

  even : uneven_of ev (again j) ≡ 0
  unfolding uneven_of
  even = rw (no_path_lem, its_tag, kept_whole ev s at i nx e) refl

  its_bytes : item_wire ev x (again i) ≡ item_bytes (is_beat ev i.tag) i.tag (part_of s i.value.start i.value.len)
  unfolding item_wire value_of item_bytes
  its_bytes = rw (same, no_path_lem, its_tag, held) refl

-- ---- step by step

module _ (ev : Bool) (s : List ℕ) (small : Bytes s) (x : Lists) (held : x.src ≡ s) where
  -- what no kept item is refused for, none of all is
  first_step : (f : Composed → ℕ) (n at : ℕ) → ((a : ℕ) (i : Item) (nx : ℕ) → item_at ev s a ≡ Kept i nx → f (again i) ≡ 0)
      → (r : ItemRead) → item_at ev s at ≡ r → first_of f (map again (listed_by ev s n (next_of r))) ≡ 0
      → first_of f (map again (kept_before r (listed_by ev s n (next_of r)))) ≡ 0
  unfolding first_of
  first_step f n at h (Kept i nx) e q = rw (h at i nx e) q
  first_step f n at h (Skipped i nx) e q = q
  first_step f n at h (Cut r nx) e q = q
  first_step f n at h (End nx) e q = q
  first_step f n at h (Refused k) e q = q

  none_by : (f : Composed → ℕ) → ((a : ℕ) (i : Item) (nx : ℕ) → item_at ev s a ≡ Kept i nx → f (again i) ≡ 0) → (n at : ℕ) → first_of f (map again (listed_by ev s n at)) ≡ 0
  unfolding listed_by first_of
  none_by f h zero at = refl
  none_by f h (suc n) at = first_step f n at h (item_at ev s at) refl (none_by f h n (next_of (item_at ev s at)))

  at_end : (n : ℕ) → length s ≤ n → kept_wire ev (pieces ev 0 (drop n s)) ≡ []
  at_end n h = end_ahead ev s n (length s) (stays ev s n h)

  -- from a place on, the items' bytes are those of the pieces
  bytes_step : (n at : ℕ) (r : ItemRead) → item_at ev s at ≡ r
      → joined (item_wire ev x) (map again (listed_by ev s n (next_of r))) ≡ kept_wire ev (pieces ev 0 (drop (next_of r) s))
      → joined (item_wire ev x) (map again (kept_before r (listed_by ev s n (next_of r)))) ≡ kept_wire ev (pieces ev 0 (drop at s))
  unfolding joined
  bytes_step n at (Kept i nx) e q =
      ap₂ ◌++◌ (its_bytes ev s small x held at i nx e) q
      ∙ sym (kept_ahead ev s at i nx e (is_beat ev i.tag) (part_of s i.value.start i.value.len) refl refl)
  bytes_step n at (Skipped i nx) e q = q ∙ sym (skipped_ahead ev s at i nx e)
  bytes_step n at (Cut r nx) e q = let u = turn ev s at _ e in q ∙ at_end nx (omega arith) ∙ sym (cut_ahead ev s at r nx e)
  bytes_step n at (End nx) e q = let u = turn ev s at _ e in q ∙ at_end nx (omega arith) ∙ sym (end_ahead ev s at nx e)
  bytes_step n at (Refused k) e q = absurd (turn ev s at _ e)

  bytes_by : (n at : ℕ) → length s ≤ at + n → joined (item_wire ev x) (map again (listed_by ev s n at)) ≡ kept_wire ev (pieces ev 0 (drop at s))
  unfolding listed_by joined
  bytes_by zero at h = sym (at_end at (omega arith))
  bytes_by (suc n) at h = bytes_step n at (item_at ev s at) refl (bytes_by n (next_of (item_at ev s at)) (nearer ev s n at h))

-- ---- all of them

module _ (ev : Bool) (s : List ℕ) (small : Bytes s) where
  d : Item
  d = item_of ev s 0

  count : length (listed_items ev s) ≤ item_count (l ev s)
  count =
      let a = length-map (L ev s) kind_and_tag in
      let b = length-map (L ev s) place_and_length in
      omega arith

  none : (f : Composed → ℕ) → ((a : ℕ) (i : Item) (nx : ℕ) → item_at ev s a ≡ Kept i nx → f (again i) ≡ 0) → first_of f (items_in (l ev s) (length (L ev s))) ≡ 0
  unfolding listed_items
  none f h = ap (first_of f) (all_items ev s d) ∙ none_by ev s small (l ev s) refl f h (length s) 0

  fine : verdict_of ev (l ev s) (length (L ev s)) ≡ 0
  unfolding verdict_of kinds_refusal
  fine =
      rw (
        none (bad_kind ev) (λ a i nx e. ap (λ (y : Item). bad_kind ev (again y)) (same ev s small (l ev s) refl a i nx e) ∙ its_kind ev s small (l ev s) refl a i nx e),
        le-ltb (item_count (l ev s)) (length (L ev s)) count,
        none (outside_of ev (l ev s)) (λ a i nx e. ap (λ (y : Item). outside_of ev (l ev s) (again y)) (same ev s small (l ev s) refl a i nx e) ∙ lies ev s small (l ev s) refl a i nx e),
        none (bad_path ev (l ev s)) (λ a i nx e. ap (λ (y : Item). bad_path ev (l ev s) (again y)) (same ev s small (l ev s) refl a i nx e) ∙ good ev s small (l ev s) refl a i nx e),
        none (long_of ev) (λ a i nx e. ap (λ (y : Item). long_of ev (again y)) (same ev s small (l ev s) refl a i nx e) ∙ short ev s small (l ev s) refl a i nx e),
        none (uneven_of ev) (λ a i nx e. ap (λ (y : Item). uneven_of ev (again y)) (same ev s small (l ev s) refl a i nx e) ∙ even ev s small (l ev s) refl a i nx e),
      )
      refl

  bytes_are : composed_bytes ev (l ev s) (length (L ev s)) ≡ open_bytes ev s
  unfolding composed_bytes listed_items open_bytes
  bytes_are = ap (joined (item_wire ev (l ev s))) (all_items ev s d) ∙ bytes_by ev s small (l ev s) refl (length s) 0 (omega arith)

  -- nothing is refused, and the bytes are those of the kept items with their odd bits cleared
  pub written_back : composed_wire ev (lent_back ev s) (length (listed_items ev s)) ≡ bytes (open_bytes ev s)
  unfolding composed_wire lent_back
  written_back = sym (not_refused (verdict_of ev (l ev s) (length (L ev s))) (bytes (composed_bytes ev (l ev s) (length (L ev s)))) fine) ∙ ap bytes bytes_are
