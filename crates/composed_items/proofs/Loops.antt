-- A path behind its head, and the loops over the items, on plain values. Assumes nothing.
use Prim.Native.Nat.{ℕ, ◌+◌, ◌-◌, ◌*◌, ◌%◌, ◌<◌, ◌≤◌, min}
use native.Mathlib.Omega.{arith}
use mathlib.Core.Bool.{Bool}
use mathlib.Core.Path.{◌≡◌, refl, sym, ap, ◌∙◌}
use mathlib.Core.List.{List, [], ◌∷◌, ◌++◌}
use lib.ListN.{length, get_or, drop, length-append}
use borrow.Author.Tests.{lt-ltb, le-ltb}
use Rattle.base.specs.Lists.{first_of, joined}
use Rattle.base.proofs.Lists.{from_length, from_get, Passed, passed_more, passed_stop, passed_all, joined_more, joined_all}
use Rattle.wire.specs.Lay.{put}
use Rattle.wire.proofs.Laws.Lay.{put_none, puts_join, Joining, joining_none, joining_room, joining_more, joining_done}
use Rattle.fields.specs.Path.{six_of}
use Rattle.heartbeats.specs.Paths.{PathLists, path_count, path_run, held_of}
use Rattle.heartbeats.proofs.Loops.{path_bytes_lem}
use Rattle.kept_items.specs.Kept.{headed}
use Rattle.composed_items.specs.Composed.{Lists, item_count, item_in, items_in, item_wire, composed_bytes}
use Rattle.composed_items.specs.inner.Passes.{total_of}
use Rattle.composed_items.specs.declared.Composed.{Composed}
use Rattle.composed_items.specs.declared.Total.{Total}
use Rattle.composed_items.specs.declared.Total.TheVariants.{Sum, Over}
use Rattle.composed_items.proofs.Faults.{over_told, within_told}

-- ---- a path behind its head

module _ (l : PathLists) (start len k n : ℕ) (ek : k ≡ path_count l) (en : n ≡ held_of k start len) (o : List ℕ) (at : ℕ) where
  abbrev v : List ℕ
  v = joined six_of (path_run l start len)

  pub path_none : length o < at + (2 + 6 * n) → o ≡ put o at (headed 0 v)
  path_none h = let y = path_bytes_lem l start len k n ek en in sym (put_none o at (headed 0 v) (omega arith))

  pub path_laid : at + (2 + 6 * n) ≤ length o → (b : ℕ) (mid out : List ℕ) → b ≡ 6 * n % 256 → mid ≡ put o at (0 ∷ b ∷ []) → out ≡ put mid (at + 2) v
      → out ≡ put o at (headed 0 v)
  path_laid room b mid out eb em eo =
      let y = path_bytes_lem l start len k n ek en in
      let m : b ≡ length v % 256 = eb ∙ ap (λ (x : ℕ). x % 256) (sym y) in
      let g : at + length ((0 ∷ b ∷ []) ++ v) ≤ length o = omega arith in
      eo ∙ ap (λ (x : List ℕ). put x (at + 2) v) em ∙ puts_join o at (0 ∷ b ∷ []) v (at + 2) refl g ∙ ap (λ (x : ℕ). put o at (0 ∷ x ∷ v)) m

-- ---- the items

module _ (count : ℕ) (l : Lists) (n : ℕ) (en : n ≡ min count (item_count l)) where
  items_count : length (items_in l count) ≡ n
  items_count = from_length (min count (item_count l)) 0 (item_in l) ∙ sym en

  module _ (i : ℕ) (it : Composed) (h : i < n) (e : it ≡ item_in l i) where
    in_items : i < length (items_in l count)
    in_items = rw items_count h

    the_item : get_or (items_in l count) i it ≡ it
    the_item = from_get (min count (item_count l)) (item_in l) it i (rw (← en) h) ∙ sym e

    pub each_more : (f : Composed → ℕ) (r : ℕ) → r ≡ f it → r ≡ 0 → Passed f (items_in l count) i → Passed f (items_in l count) (i + 1)
    each_more f r q z w = passed_more f (items_in l count) i it in_items (ap f the_item ∙ sym q ∙ z) w

    pub each_stop : (f : Composed → ℕ) (r : ℕ) → r ≡ f it → (r ≡ 0 → ⊥) → Passed f (items_in l count) i → r ≡ first_of f (items_in l count)
    each_stop f r q z w = passed_stop f (items_in l count) i it r in_items (ap f the_item ∙ sym q) z w

  pub each_all : (f : Composed → ℕ) (i : ℕ) → n ≤ i → Passed f (items_in l count) i → 0 ≡ first_of f (items_in l count)
  each_all f i h w = passed_all f (items_in l count) i (rw items_count h) w

-- a sum of what the first i give, which is not over
pub record Summing {A : Type 0} (f : A → List ℕ) (xs : List A) (most i sum : ℕ) : Type 0 where
  pub small : sum ≤ most
  pub rest : sum + length (joined f (drop i xs)) ≡ length (joined f xs)

module _ (ev : Bool) (count : ℕ) (l : Lists) where
  pub sum_none : (most : ℕ) → Summing (item_wire ev l) (items_in l count) most 0 0
  sum_none most = record { small = omega arith; rest = omega arith }

  -- what does not fit, and what does
  pub item_none : (o₀ : List ℕ) (at : ℕ) → length o₀ < at → o₀ ≡ put o₀ at (composed_bytes ev l count)
  item_none o₀ at h = sym (put_none o₀ at (composed_bytes ev l count) (omega arith))

  pub item_over : (o₀ : List ℕ) (at : ℕ) (t : Total) → at ≤ length o₀ → t ≡ total_of (length o₀ - at) (length (composed_bytes ev l count)) → t ≡ Over
      → o₀ ≡ put o₀ at (composed_bytes ev l count)
  item_over o₀ at t h e q = let k = over_told (length o₀ - at) (length (composed_bytes ev l count)) (sym e ∙ q) in sym (put_none o₀ at (composed_bytes ev l count) (omega arith))

  pub item_begin : (o₀ : List ℕ) (at : ℕ) (t : Total) (m : ℕ) → at ≤ length o₀ → t ≡ total_of (length o₀ - at) (length (composed_bytes ev l count)) → t ≡ Sum m
      → Joining o₀ at (composed_bytes ev l count) o₀ 0 (joined (item_wire ev l) (items_in l count))
  unfolding composed_bytes
  item_begin o₀ at t m h e q = let k = within_told (length o₀ - at) (length (composed_bytes ev l count)) m (sym e ∙ q) in joining_none o₀ at (composed_bytes ev l count) (omega arith)

  module _ (n : ℕ) (en : n ≡ min count (item_count l)) where
    module _ (i : ℕ) (it : Composed) (h : i < n) (e : it ≡ item_in l i) where
      pub ahead : joined (item_wire ev l) (drop i (items_in l count)) ≡ item_wire ev l it ++ joined (item_wire ev l) (drop (i + 1) (items_in l count))
      ahead = joined_more (item_wire ev l) (items_in l count) i it (in_items count l n en i it h e) ∙ ap (λ (x : Composed). item_wire ev l x ++ joined (item_wire ev l) (drop (i + 1) (items_in l count))) (the_item count l n en i it h e)

      module _ (m : ℕ) (long : m ≡ length (item_wire ev l it)) where
        ahead_length : length (joined (item_wire ev l) (drop i (items_in l count))) ≡ m + length (joined (item_wire ev l) (drop (i + 1) (items_in l count)))
        ahead_length = ap length ahead ∙ length-append (item_wire ev l it) (joined (item_wire ev l) (drop (i + 1) (items_in l count))) ∙ rw (← long)

        pub sum_more : (most sum : ℕ) → m ≤ most - sum → Summing (item_wire ev l) (items_in l count) most i sum
            → Summing (item_wire ev l) (items_in l count) most (i + 1) (sum + m)
        sum_more most sum k s =
            let a = ahead_length in
            let b = s.rest in
            let d = s.small in
            record { small = omega arith; rest = omega arith }

        pub sum_over : (most sum : ℕ) → most - sum < m → Summing (item_wire ev l) (items_in l count) most i sum
            → Over ≡ total_of most (length (composed_bytes ev l count))
        unfolding composed_bytes total_of
        sum_over most sum k s =
            let a = ahead_length in
            let b = s.rest in
            let d = s.small in
            let g : most < length (joined (item_wire ev l) (items_in l count)) = omega arith in
            simp (lt-ltb _ _ g)

        pub item_room : (o₀ out : List ℕ) (at o : ℕ)
            → Joining o₀ at (composed_bytes ev l count) out o (joined (item_wire ev l) (drop i (items_in l count)))
            → at + o + m ≤ length o₀
        item_room o₀ out at o j =
            let r = joining_room o₀ at _ out o _ j in
            let a = ahead_length in
            omega arith

        pub item_more : (o₀ out out2 : List ℕ) (at o : ℕ) → out2 ≡ put out (at + o) (item_wire ev l it)
            → Joining o₀ at (composed_bytes ev l count) out o (joined (item_wire ev l) (drop i (items_in l count)))
            → Joining o₀ at (composed_bytes ev l count) out2 (o + m) (joined (item_wire ev l) (drop (i + 1) (items_in l count)))
        item_more o₀ out out2 at o q j =
            joining_more o₀ at _ out o _ j (item_wire ev l it) (joined (item_wire ev l) (drop (i + 1) (items_in l count))) out2 m ahead long q

    pub none_left : (i : ℕ) → n ≤ i → joined (item_wire ev l) (drop i (items_in l count)) ≡ []
    none_left i h = joined_all (item_wire ev l) (items_in l count) i (rw (items_count count l n en) h)

    pub sum_all : (most i sum : ℕ) → n ≤ i → Summing (item_wire ev l) (items_in l count) most i sum
        → Sum sum ≡ total_of most (length (composed_bytes ev l count))
    unfolding composed_bytes total_of
    sum_all most i sum h s =
        let a = ap length (none_left i h) in
        let b = s.rest in
        let d = s.small in
        let g : length (joined (item_wire ev l) (items_in l count)) ≤ most = omega arith in
        let q : sum ≡ length (joined (item_wire ev l) (items_in l count)) = omega arith in
        ap Sum q ∙ simp (le-ltb _ _ g)

    pub item_all : (i : ℕ) (o₀ out : List ℕ) (at o : ℕ) → n ≤ i
        → Joining o₀ at (composed_bytes ev l count) out o (joined (item_wire ev l) (drop i (items_in l count)))
        → out ≡ put o₀ at (composed_bytes ev l count)
    item_all i o₀ out at o h j = joining_done o₀ at _ out o _ j (none_left i h)
