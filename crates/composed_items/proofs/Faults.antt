-- One item in each pass, the passes one after another, and the sum's answer, on plain values. Assumes nothing.
use Prim.Native.Nat.{ℕ, zero, suc, ◌<◌, ◌≤◌}
use native.Mathlib.Omega.{arith}
use mathlib.Core.Bool.{Bool, true, false}
use mathlib.Core.Path.{◌≡◌, refl, sym, ◌∙◌}
use mathlib.Core.List.{List}
use lib.Dec.{ltb}
use borrow.Author.Tests.{lt-ltb, le-ltb, ltb-true, ltb-false}
use Rattle.base.specs.Pick.{pick}
use Rattle.base.specs.Lists.{or_else, first_of}
use Rattle.base.specs.Numbers.{outside}
use Rattle.composed_items.specs.Composed.{Lists, item_count, items_in, outside_of, bad_path, long_of, uneven_of, kinds_refusal, verdict_of}
use Rattle.composed_items.specs.inner.Passes.{capped, total_of}
use Rattle.composed_items.specs.declared.Composed.{Composed}
use Rattle.composed_items.specs.declared.Total.TheVariants.{Sum, Over}

-- ---- pass by pass

or_some : (a b : ℕ) → (a ≡ 0 → ⊥) → a ≡ or_else a b
or_some zero b h = absurd (h refl)
or_some (suc a) b h = refl

-- the kinds come first
pub strange : (ev : Bool) (l : Lists) (n k : ℕ) → k ≡ kinds_refusal ev l.kinds l.spans n → (k ≡ 0 → ⊥) → k ≡ verdict_of ev l n
unfolding verdict_of
strange ev l n k e h = e ∙ or_some (kinds_refusal ev l.kinds l.spans n) _ (λ z. h (e ∙ z))

-- then whether there are as many, and the four passes one after another
pub few : (ev : Bool) (l : Lists) (n k : ℕ) → k ≡ kinds_refusal ev l.kinds l.spans n → k ≡ 0 → item_count l < n → outside ≡ verdict_of ev l n
unfolding verdict_of
few ev l n k e z h = rw (sym e ∙ z) (simp (lt-ltb (item_count l) n h))

module _ (ev : Bool) (l : Lists) (n k : ℕ) (e : k ≡ kinds_refusal ev l.kinds l.spans n) (z : k ≡ 0) (h : n ≤ item_count l) where
  abbrev all : List Composed
  all = items_in l n

  in_turn : or_else (first_of (outside_of ev l) all) (or_else (first_of (bad_path ev l) all) (or_else (first_of (long_of ev) all) (first_of (uneven_of ev) all))) ≡ verdict_of ev l n
  unfolding verdict_of
  in_turn = rw (sym e ∙ z) (simp (le-ltb (item_count l) n h))

  module _ (o : ℕ) (eo : o ≡ first_of (outside_of ev l) all) where
    pub outside_told : (o ≡ 0 → ⊥) → o ≡ verdict_of ev l n
    outside_told q = eo ∙ or_some _ _ (λ w. q (eo ∙ w)) ∙ in_turn

    module _ (zo : o ≡ 0) (p : ℕ) (ep : p ≡ first_of (bad_path ev l) all) where
      from_paths : or_else (first_of (bad_path ev l) all) (or_else (first_of (long_of ev) all) (first_of (uneven_of ev) all)) ≡ verdict_of ev l n
      from_paths = rw (sym eo ∙ zo) at in_turn

      pub path_told : (p ≡ 0 → ⊥) → p ≡ verdict_of ev l n
      path_told q = ep ∙ or_some _ _ (λ w. q (ep ∙ w)) ∙ from_paths

      module _ (zp : p ≡ 0) (m : ℕ) (em : m ≡ first_of (long_of ev) all) where
        from_lengths : or_else (first_of (long_of ev) all) (first_of (uneven_of ev) all) ≡ verdict_of ev l n
        from_lengths = rw (sym ep ∙ zp) at from_paths

        pub long_told : (m ≡ 0 → ⊥) → m ≡ verdict_of ev l n
        long_told q = em ∙ or_some _ _ (λ w. q (em ∙ w)) ∙ from_lengths

        pub uneven_told : m ≡ 0 → (r : ℕ) → r ≡ first_of (uneven_of ev) all → r ≡ verdict_of ev l n
        uneven_told zm r q = q ∙ (rw (sym em ∙ zm) at from_lengths)

-- ---- the sum

pub sum_told : (n m : ℕ) → total_of 8192 n ≡ Sum m → m ≡ capped n
unfolding total_of
sum_told n m e = go (ltb 8192 n) e
  where
    go : (t : Bool) → pick t Over (Sum n) ≡ Sum m → m ≡ pick t 8193 n
    go true q = absurd (let z : ◌≡◌ {A = ℕ} 0 1 = cc in omega arith)
    go false q = cc

pub over_told : (most n : ℕ) → total_of most n ≡ Over → most < n
unfolding total_of
over_told most n e = go (ltb most n) refl e
  where
    go : (t : Bool) → ltb most n ≡ t → pick t Over (Sum n) ≡ Over → most < n
    go true p q = ltb-true most n p
    go false p q = absurd (let z : ◌≡◌ {A = ℕ} 0 1 = cc in omega arith)

pub within_told : (most n m : ℕ) → total_of most n ≡ Sum m → n ≤ most
unfolding total_of
within_told most n m e = go (ltb most n) refl e
  where
    go : (t : Bool) → ltb most n ≡ t → pick t Over (Sum n) ≡ Sum m → n ≤ most
    go true p q = absurd (let z : ◌≡◌ {A = ℕ} 0 1 = cc in omega arith)
    go false p q = ltb-false most n p

pub over_capped : (n : ℕ) → total_of 8192 n ≡ Over → 8193 ≡ capped n
over_capped n e = simp (lt-ltb 8192 n (over_told 8192 n e))
