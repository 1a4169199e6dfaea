-- Laws of composed items: none of them, what a verdict of 0 says of each, and a size that is capped. Assumes nothing.
use Prim.Native.Nat.{ℕ, zero, suc, ◌+◌, ◌<◌, ◌≤◌, min}
use native.Mathlib.Nat.{le_of_suc-le-suc, not-suc-le-zero}
use native.Mathlib.Omega.{arith}
use mathlib.Core.Bool.{Bool, true, false}
use mathlib.Core.Path.{◌≡◌, refl, sym, ap, ◌∙◌}
use mathlib.Core.List.{List, [], ◌∷◌}
use lib.Dec.{ltb, eqb}
use lib.ListN.{length, get_or}
use borrow.Author.Tests.{le-ltb, ltb-true, ltb-false}
use Rattle.base.specs.Pick.{pick}
use Rattle.base.specs.Numbers.{type_large, item_long, outside, item_most, path_most}
use Rattle.base.specs.Lists.{from, imap, or_else, first_of, joined}
use Rattle.base.proofs.Lists.{from_length, from_get, imap_length, or_zero}
use Rattle.base.proofs.First.{passed}
use Rattle.wire.specs.Part.{part_of}
use Rattle.fields.specs.Path.{six_of}
use Rattle.heartbeats.specs.Paths.{path_count, path_run}
use Rattle.heartbeats.proofs.Runs.{held_le, path_length}
use Rattle.items.specs.Items.{is_beat}
use Rattle.kept_items.specs.Kept.{fixed}
use Rattle.composed_items.specs.Composed.{Lists, lists, item_count, item_in, items_in, is_path, bad_kind, outside_of, bad_path, long_of, uneven_of, kinds_refusal, verdict_of, value_of, composed_bytes}
use Rattle.composed_items.specs.inner.Passes.{capped}
use Rattle.composed_items.specs.declared.Composed.{Composed}
use Rattle.composed_items.proofs.Runs.{part_length}

-- ---- no items

module _ (ev : Bool) (l : Lists) where
  no_items : items_in l 0 ≡ []
  no_items = let e : min 0 (item_count l) ≡ 0 = omega arith in ap (λ (n : ℕ). from n 0 (item_in l)) e

  pub none_composed : (verdict_of ev l 0 ≡ 0) × (composed_bytes ev l 0 ≡ [])
  unfolding verdict_of kinds_refusal composed_bytes first_of joined
  none_composed = (rw (no_items, le-ltb (item_count l) 0 (omega arith)), rw no_items)

-- no lists have no kind that is refused
pub no_kinds : (ev : Bool) (n : ℕ) → kinds_refusal ev [] [] n ≡ 0
unfolding kinds_refusal first_of
no_kinds ev n =
    let e : min n (item_count (lists [] [] [] [] [] [])) ≡ 0 = omega arith in
    ap (λ (m : ℕ). first_of (bad_kind ev) (from m 0 (item_in (lists [] [] [] [] [] [])))) e

-- what the kinds refuse with is 29
bad_by : (a e b c : Bool) → (◌≡◌ {A = ℕ} (pick a 0 (pick e (pick b 0 (pick c 0 29)) 29)) 0 → ⊥) → ◌≡◌ {A = ℕ} (pick a 0 (pick e (pick b 0 (pick c 0 29)) 29)) 29
bad_by true e b c h = absurd (h refl)
bad_by false false b c h = refl
bad_by false true true c h = absurd (h refl)
bad_by false true false true h = absurd (h refl)
bad_by false true false false h = refl

bad_29 : (ev : Bool) (it : Composed) → (bad_kind ev it ≡ 0 → ⊥) → bad_kind ev it ≡ type_large
unfolding bad_kind
bad_29 ev it h = bad_by (eqb it.kind 2) ev (eqb it.kind 1) (eqb it.kind 3) h

first_or : (m a b : ℕ) → ((a ≡ 0 → ⊥) → a ≡ m) → ((b ≡ 0 → ⊥) → b ≡ m) → (or_else a b ≡ 0 → ⊥) → or_else a b ≡ m
first_or m zero b f g h = g h
first_or m (suc a) b f g h = f h

first_is : {A : Type 0} (f : A → ℕ) (m : ℕ) → ((x : A) → (f x ≡ 0 → ⊥) → f x ≡ m) → (xs : List A) → (first_of f xs ≡ 0 → ⊥) → first_of f xs ≡ m
unfolding first_of
first_is f m g [] h = absurd (h refl)
first_is f m g (x ∷ xs) h = first_or m (f x) (first_of f xs) (g x) (first_is f m g xs) h

pub kinds_29 : (ev : Bool) (kinds spans : List (List ℕ)) (n : ℕ) → (kinds_refusal ev kinds spans n ≡ 0 → ⊥) → kinds_refusal ev kinds spans n ≡ type_large
unfolding kinds_refusal
kinds_29 ev kinds spans n h = first_is (bad_kind ev) type_large (bad_29 ev) (items_in (lists kinds spans [] [] [] []) n) h

-- ---- a verdict of 0

none_of : {A : Type 0} (f : A → ℕ) (xs : List A) (z : A) → first_of f xs ≡ 0 → (i : ℕ) → i < length xs → f (get_or xs i z) ≡ 0
unfolding first_of
none_of f [] z e i h = absurd (not-suc-le-zero h)
none_of f (x ∷ xs) z e zero h = (or_zero (f x) (first_of f xs) e).0
none_of f (x ∷ xs) z e (suc i) h = none_of f xs z (or_zero (f x) (first_of f xs) e).1 i (le_of_suc-le-suc h)

-- which the kinds alone refuse where they do
pub known_kinds : (ev : Bool) (l : Lists) (n : ℕ) → verdict_of ev l n ≡ 0 → kinds_refusal ev l.kinds l.spans n ≡ 0
unfolding verdict_of
known_kinds ev l n e = (or_zero _ _ e).0

-- no pass finds anything in an item
pub record Fine (ev : Bool) (l : Lists) (it : Composed) : Type 0 where
  pub known : bad_kind ev it ≡ 0
  pub lies_inside : outside_of ev l it ≡ 0
  pub good_path : bad_path ev l it ≡ 0
  pub not_long : long_of ev it ≡ 0
  pub not_uneven : uneven_of ev it ≡ 0

module _ (ev : Bool) (l : Lists) (n : ℕ) (e : verdict_of ev l n ≡ 0) where
  parts : (first_of (bad_kind ev) (items_in l n) ≡ 0) × (pick (ltb (item_count l) n) outside 0 ≡ 0) × (first_of (outside_of ev l) (items_in l n) ≡ 0) × (first_of (bad_path ev l) (items_in l n) ≡ 0)
      × (first_of (long_of ev) (items_in l n) ≡ 0) × (first_of (uneven_of ev) (items_in l n) ≡ 0)
  unfolding verdict_of kinds_refusal
  parts =
      let k = or_zero _ _ e in
      let a = or_zero _ _ k.1 in
      let b = or_zero _ _ a.1 in
      let c = or_zero _ _ b.1 in
      let d = or_zero _ _ c.1 in
      (k.0, a.0, b.0, c.0, d.0, d.1)

  -- all n of them are there
  pub there : n ≤ item_count l
  there = ltb-false (item_count l) n (passed (ltb (item_count l) n) 44 0 parts.1).0

  the_item : (i : ℕ) → i < n → get_or (items_in l n) i (item_in l i) ≡ item_in l i
  the_item i h = let t = there in from_get (min n (item_count l)) (item_in l) (item_in l i) i (omega arith)

  zero_at : (f : Composed → ℕ) → first_of f (items_in l n) ≡ 0 → (i : ℕ) → i < n → f (item_in l i) ≡ 0
  zero_at f z i h =
      let t = there in
      let k = from_length (min n (item_count l)) 0 (item_in l) in
      sym (ap f (the_item i h)) ∙ none_of f (items_in l n) (item_in l i) z i (omega arith)

  pub all_fine : (i : ℕ) → i < n → Fine ev l (item_in l i)
  all_fine i h =
      record {
        known = zero_at (bad_kind ev) parts.0 i h;
        lies_inside = zero_at (outside_of ev l) parts.2 i h;
        good_path = zero_at (bad_path ev l) parts.3 i h;
        not_long = zero_at (long_of ev) parts.4 i h;
        not_uneven = zero_at (uneven_of ev) parts.5 i h;
      }

-- what is not too long has a value of at most 255 bytes, so that its length byte is its length
module _ (ev : Bool) (l : Lists) (it : Composed) where
  short : (t : Bool) → pick (ltb (pick t path_most item_most) it.len) item_long 0 ≡ 0
      → length (pick t (joined six_of (path_run l.entries it.place it.len)) (imap (fixed (is_beat ev it.tag)) 0 (part_of l.src it.place it.len))) ≤ 255
  short true e =
      let h : it.len ≤ 42 = ltb-false 42 it.len (passed (ltb 42 it.len) 18 0 e).0 in
      let a = path_length l.entries it.place it.len in
      let b = held_le (path_count l.entries) it.place it.len in
      omega arith
  short false e =
      let h : it.len ≤ 255 = ltb-false 255 it.len (passed (ltb 255 it.len) 18 0 e).0 in
      let a = imap_length (fixed (is_beat ev it.tag)) 0 (part_of l.src it.place it.len) in
      let b = part_length l.src it.place it.len in
      let c = held_le (length l.src) it.place it.len in
      omega arith

  pub short_value : long_of ev it ≡ 0 → length (value_of ev l it) ≤ 255
  unfolding long_of value_of
  short_value e = short (is_path ev it) e

pub value_short : (ev : Bool) (l : Lists) (n : ℕ) → verdict_of ev l n ≡ 0 → (i : ℕ) → i < n → length (value_of ev l (item_in l i)) ≤ 255
value_short ev l n e i h = short_value ev l (item_in l i) (all_fine ev l n e i h).not_long

-- ---- a size that is capped: it is the length where that is at most 8,192, and over any limit up to there where the length is

capped_by : (m : ℕ) (t : Bool) → ltb 8192 m ≡ t → (n : ℕ) → n ≡ pick t 8193 m → (n ≤ 8192 → n ≡ m) × ((h k : ℕ) → k ≤ 8192 → k < h + n → k < h + m)
capped_by m true q n e = let g : 8192 < m = ltb-true _ _ q in (λ l. absurd (omega arith), λ h k l j. omega arith)
capped_by m false q n e = (λ l. e, λ h k l j. omega arith)

pub capped_is : (n m : ℕ) → n ≡ capped m → n ≤ 8192 → n ≡ m
capped_is n m e = (capped_by m (ltb 8192 m) refl n e).0

-- also behind a head of h bytes
pub capped_over : (h k n m : ℕ) → k ≤ 8192 → n ≡ capped m → k < h + n → k < h + m
capped_over h k n m l e = (capped_by m (ltb 8192 m) refl n e).1 h k l
