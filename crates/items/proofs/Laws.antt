-- Laws of a payload's items: the reader, from one item to the next, finds the pieces; and the bytes of the pieces sum to the payload's. Assumes
-- nothing.
use Prim.Native.Nat.{ℕ, zero, suc, ◌+◌, ◌-◌, ◌≤◌, ◌<◌}
use native.Mathlib.Omega.{arith}
use mathlib.Core.Bool.{Bool, true, false}
use mathlib.Core.Path.{◌≡◌, refl, sym, ap, ap₂, ◌∙◌}
use mathlib.Core.List.{List, [], ◌∷◌}
use Rattle.std.proofs.Common.{◌⊎◌, inl, inr}
use lib.Dec.{ltb, leb}
use lib.ListN.{length, get_or, take, drop, length-drop, drop_of_length-le}
use lib.Seq.{drop-cons, drop-drop, length-take-le}
use borrow.Author.Tests.{lt-ltb, le-ltb, le-leb, lt-leb, ltb-true, ltb-false, leb-true, leb-false}
use Rattle.base.specs.Pick.{pick}
use Rattle.wire.specs.Part.{part_of}
use Rattle.wire.specs.declared.run.Run.{Run}
use Rattle.items.specs.Items.{bad_beat, Piece, kept, skipped, cut, pieces, item_at, kept_bytes, skipped_bytes, cut_bytes, item_of, cut_at, Turn, next_of, walked_to, goes_on_to}
use Rattle.std.specs.Prelude.{Some}
use Rattle.items.specs.declared.item.Item.{Item}
use Rattle.items.specs.declared.item.ItemRead.{ItemRead}
use Rattle.items.specs.declared.item.ItemRead.TheVariants.{Kept, Skipped, Cut, End, Refused}

-- to pass over k bytes is to read what is left without them
pub skip : (ev : Bool) (k : ℕ) (s : List ℕ) → pieces ev k s ≡ pieces ev 0 (drop k s)
unfolding pieces
skip ev zero s = refl
skip ev (suc k) [] = refl
skip ev (suc k) (x ∷ s) = skip ev k s

-- two bytes and the rest
pub heads : (s : List ℕ) (at : ℕ) → at + 2 ≤ length s → drop at s ≡ get_or s at 0 ∷ get_or s (at + 1) 0 ∷ drop (at + 2) s
heads s at h =
    let a : at < length s = omega arith in
    let b : at + 1 < length s = omega arith in
    let e : suc at ≡ at + 1 = omega arith in
    let f : suc (at + 1) ≡ at + 2 = omega arith in
    drop-cons s at 0 a ∙ rw e (rw (drop-cons s (at + 1) 0 b, f))

-- a whole item, and a cut one, at the front
pub step : (ev : Bool) (t n : ℕ) (rest : List ℕ) → n ≤ length rest
    → pieces ev 0 (t ∷ n ∷ rest) ≡ pick (bad_beat ev t n) (skipped (take n rest)) (kept t (take n rest)) ∷ pieces ev 0 (drop n rest)
unfolding pieces
step ev t n rest h =
    simp (le-leb _ _ h) (ap (λ (l : List Piece). pick (bad_beat ev t n) (skipped (take n rest)) (kept t (take n rest)) ∷ l) (skip ev n rest))

pub stop : (ev : Bool) (t n : ℕ) (rest : List ℕ) → length rest < n → pieces ev 0 (t ∷ n ∷ rest) ≡ cut (t ∷ n ∷ rest) ∷ []
unfolding pieces
stop ev t n rest h = simp (lt-leb _ _ h)

module _ (ev : Bool) (s : List ℕ) (at : ℕ) where
  ended : length s ≤ at → Turn ev s at (item_at ev s at)
  unfolding item_at pieces
  ended h = simp (le-leb _ _ h) (refl, h, ap (pieces ev 0) (drop_of_length-le s h))

  lone : at < length s → length s - at < 2 → Turn ev s at (item_at ev s at)
  unfolding item_at pieces
  lone h k =
      let z : length s ≤ suc at = omega arith in
      let e : drop at s ≡ get_or s at 0 ∷ [] = drop-cons s at 0 h ∙ ap (λ (l : List ℕ). get_or s at 0 ∷ l) (drop_of_length-le s z) in
      simp (lt-leb _ _ h, lt-ltb _ _ k) (refl, refl, h, rw e)

  module _ (h : at < length s) (k : 2 ≤ length s - at) where
    two : at + 2 ≤ length s
    two = omega arith

    long : length s - at - 2 < get_or s (at + 1) 0 → Turn ev s at (item_at ev s at)
    unfolding item_at
    long l =
        let f : length (drop (at + 2) s) < get_or s (at + 1) 0 = simp length-drop (omega arith) in
        simp (lt-leb _ _ h, le-ltb _ _ k, lt-ltb _ _ l) (refl, refl, h, rw (heads s at two) (stop ev _ _ _ f))

    whole : (b : Bool) → bad_beat ev (get_or s at 0) (get_or s (at + 1) 0) ≡ b → get_or s (at + 1) 0 ≤ length s - at - 2 → Turn ev s at (item_at ev s at)
    unfolding item_at
    whole true b l =
        let n = get_or s (at + 1) 0 in
        let f : n ≤ length (drop (at + 2) s) = simp length-drop (omega arith) in
        simp (lt-leb _ _ h, le-ltb _ _ k, le-ltb _ _ l, b) (refl, refl, omega arith, rw (heads s at two, step ev _ _ _ f, b, drop-drop))
    whole false b l =
        let n = get_or s (at + 1) 0 in
        let f : n ≤ length (drop (at + 2) s) = simp length-drop (omega arith) in
        simp (lt-leb _ _ h, le-ltb _ _ k, le-ltb _ _ l, b) (refl, refl, omega arith, rw (heads s at two, step ev _ _ _ f, b, drop-drop))

  -- by the three tests
  tests : (x y z : Bool) → leb (length s) at ≡ x → ltb (length s - at) 2 ≡ y → ltb (length s - at - 2) (get_or s (at + 1) 0) ≡ z → Turn ev s at (item_at ev s at)
  tests true y z p q r = ended (leb-true _ _ p)
  tests false true z p q r = lone (leb-false _ _ p) (ltb-true _ _ q)
  tests false false true p q r = long (leb-false _ _ p) (ltb-false _ _ q) (ltb-true _ _ r)
  tests false false false p q r = whole (leb-false _ _ p) (ltb-false _ _ q) _ refl (ltb-false _ _ r)

  -- whatever the reader answers
  pub turn : (r : ItemRead) → item_at ev s at ≡ r → Turn ev s at r
  turn r e = rw e at (tests _ _ _ refl refl refl)

-- an iterator over the items goes on behind what it gives, and gives nothing at the end
module _ (ev : Bool) (s : List ℕ) (at : ℕ) (r : ItemRead) (e : item_at ev s at ≡ r) where
  pub ahead : (nx : ℕ) → ((i : Item) × (r ≡ Kept i nx)) ⊎ (((i : Item) × (r ≡ Skipped i nx)) ⊎ ((t : Run) × (r ≡ Cut t nx))) → (at < length s) × (nx ≡ next_of r) × (nx ≤ length s) × (at < nx)
  ahead nx (inl (i, q)) = let t = turn ev s at _ (e ∙ q) in (omega arith, sym (ap next_of q), omega arith, omega arith)
  ahead nx (inr (inl (i, q))) = let t = turn ev s at _ (e ∙ q) in (omega arith, sym (ap next_of q), omega arith, omega arith)
  ahead nx (inr (inr (i, q))) = let t = turn ev s at _ (e ∙ q) in (omega arith, sym (ap next_of q), omega arith, omega arith)

  pub over : ((nx : ℕ) × (r ≡ End nx)) ⊎ ((n : ℕ) × (r ≡ Refused n)) → length s ≤ at
  over (inl (nx, q)) = (turn ev s at _ (e ∙ q)).1
  over (inr (n, q)) = absurd (turn ev s at _ (e ∙ q))

-- what an iterator over the items gave
module _ {ev ev1 ev2 : Bool} {s s1 s2 : List ℕ} {at at2 : ℕ} {r : ItemRead} (x : ItemRead) where
  pub came : ev1 ≡ ev → s1 ≡ s → goes_on_to ev1 s1 at (Some r) ev2 s2 at2 → r ≡ x → (ev2 ≡ ev) × (s2 ≡ s) × (item_at ev s at ≡ x) × (at2 ≡ next_of x)
  came p q m e = (m.0 ∙ p, m.1 ∙ q, sym (ap₂ (λ (b : Bool) (l : List ℕ). item_at b l at) p q) ∙ m.2.1 ∙ e, m.2.2 ∙ ap next_of e)

-- which is an item or a cut tail
pub no_other : (ev : Bool) (s : List ℕ) (at : ℕ) (r : ItemRead) → item_at ev s at ≡ r → at < length s → ((i : Item) (nx : ℕ) → r ≡ Kept i nx → ⊥) → ((i : Item) (nx : ℕ) → r ≡ Skipped i nx → ⊥)
    → ((t : Run) (nx : ℕ) → r ≡ Cut t nx → ⊥) → ⊥
no_other ev s at (Kept i nx) e h k sk c = k i nx refl
no_other ev s at (Skipped i nx) e h k sk c = sk i nx refl
no_other ev s at (Cut t nx) e h k sk c = c t nx refl
no_other ev s at (End nx) e h k sk c = let t = turn ev s at _ e in omega arith
no_other ev s at (Refused n) e h k sk c = turn ev s at _ e

-- ---- from one item to the next

module _ (ev : Bool) (s : List ℕ) where
  -- each step goes on, and none beyond the payload
  pub goes_on : (at : ℕ) → at < length s → (at < next_of (item_at ev s at)) × (next_of (item_at ev s at) ≤ length s)
  goes_on at h = by (item_at ev s at) refl
    where
      by : (r : ItemRead) → item_at ev s at ≡ r → (at < next_of r) × (next_of r ≤ length s)
      by (Kept i nx) e = let t = turn ev s at _ e in (omega arith, omega arith)
      by (Skipped i nx) e = let t = turn ev s at _ e in (omega arith, omega arith)
      by (Cut r nx) e = let t = turn ev s at _ e in (omega arith, omega arith)
      by (End nx) e = let t = turn ev s at _ e in absurd (omega arith)
      by (Refused n) e = absurd (turn ev s at _ e)

  -- at the end it stays
  pub stays : (at : ℕ) → length s ≤ at → item_at ev s at ≡ End (length s)
  unfolding item_at
  stays at h = simp (le-leb (length s) at h)

  pub nearer : (n at : ℕ) → length s ≤ at + suc n → length s ≤ next_of (item_at ev s at) + n
  nearer n at h = by (ltb at (length s)) refl
    where
      by : (t : Bool) → ltb at (length s) ≡ t → length s ≤ next_of (item_at ev s at) + n
      by true e = let g = goes_on at (ltb-true _ _ e) in omega arith
      by false e = let g = ap next_of (stays at (ltb-false _ _ e)) in omega arith

  walked_far : (n at : ℕ) → length s ≤ at + n → length s ≤ walked_to ev s n at
  unfolding walked_to
  walked_far zero at h = omega arith
  walked_far (suc n) at h = walked_far n _ (nearer n at h)

  -- as many steps as bytes lead to the end, for every payload
  pub walk_ends : item_at ev s (walked_to ev s (length s) 0) ≡ End (length s)
  walk_ends = stays _ (walked_far (length s) 0 (omega arith))

-- what is kept is no bad heartbeat
kept_by : (ev : Bool) (s : List ℕ) (at : ℕ) (i : Item) (nx : ℕ) (x y z b : Bool) → bad_beat ev (get_or s at 0) (get_or s (at + 1) 0) ≡ b
    → pick x (End (length s)) (pick y (cut_at (length s) at) (pick z (cut_at (length s) at)
    (pick b (Skipped (item_of ev s at) (at + 2 + get_or s (at + 1) 0)) (Kept (item_of ev s at) (at + 2 + get_or s (at + 1) 0))))) ≡ Kept i nx
    → bad_beat ev (get_or s at 0) (get_or s (at + 1) 0) ≡ false
kept_by ev s at i nx true y z b q e = let n : ◌≡◌ {A = ℕ} 0 1 = cc in absurd (omega arith)
kept_by ev s at i nx false true z b q e = let n : ◌≡◌ {A = ℕ} 0 1 = cc in absurd (omega arith)
kept_by ev s at i nx false false true b q e = let n : ◌≡◌ {A = ℕ} 0 1 = cc in absurd (omega arith)
kept_by ev s at i nx false false false true q e = let n : ◌≡◌ {A = ℕ} 0 1 = cc in absurd (omega arith)
kept_by ev s at i nx false false false false q e = q

pub kept_whole : (ev : Bool) (s : List ℕ) (at : ℕ) (i : Item) (nx : ℕ) → item_at ev s at ≡ Kept i nx → bad_beat ev (get_or s at 0) (get_or s (at + 1) 0) ≡ false
unfolding item_at
kept_whole ev s at i nx e =
    kept_by ev s at i nx (leb (length s) at) (ltb (length s - at) 2) (ltb (length s - at - 2) (get_or s (at + 1) 0)) (bad_beat ev (get_or s at 0) (get_or s (at + 1) 0)) refl e

-- its value's part is what the piece holds
pub kept_value : (ev : Bool) (s : List ℕ) (at : ℕ) (i : Item) (nx : ℕ) → item_at ev s at ≡ Kept i nx
    → part_of s i.value.start i.value.len ≡ take (get_or s (at + 1) 0) (drop (at + 2) s)
unfolding part_of
kept_value ev s at i nx e =
    let u = turn ev s at _ e in
    ap₂ (λ (a b : ℕ). part_of s a b) (ap (λ (x : Item). x.value.start) u.0) (ap (λ (x : Item). x.value.len) u.0)
    ∙ simp (le-ltb (length s) (at + 2) (omega arith), le-ltb (length s - (at + 2)) (get_or s (at + 1) 0) (omega arith))

abbrev total : List Piece → ℕ
total ps = kept_bytes ps + skipped_bytes ps + cut_bytes ps

-- one piece more
total_step : (ev : Bool) (t n : ℕ) (s : List ℕ) → total (pieces ev n s) ≡ length s - n → (b d : Bool) → leb n (length s) ≡ b → bad_beat ev t n ≡ d
    → total (pieces ev 0 (t ∷ n ∷ s)) ≡ suc (suc (length s))
total_step ev t n s ih true true p q =
    let h : n ≤ length s = leb-true _ _ p in
    let l = length-take-le n s h in
    let i = rw (skip ev n s) at ih in
    rw (step ev t n s h, q) (simp l (omega arith))
total_step ev t n s ih true false p q =
    let h : n ≤ length s = leb-true _ _ p in
    let l = length-take-le n s h in
    let i = rw (skip ev n s) at ih in
    rw (step ev t n s h, q) (simp l (omega arith))
total_step ev t n s ih false d p q = rw (stop ev t n s (leb-false _ _ p)) (omega arith)

total_from : (ev : Bool) (k : ℕ) (s : List ℕ) → total (pieces ev k s) ≡ length s - k
unfolding pieces
total_from ev (suc k) [] = omega arith
total_from ev (suc k) (x ∷ s) = total_from ev k s ∙ omega arith
total_from ev zero [] = omega arith
total_from ev zero (t ∷ []) = omega arith
total_from ev zero (t ∷ n ∷ s) = total_step ev t n s (total_from ev n s) _ _ refl refl ∙ omega arith

-- the three byte counts sum to the payload's length
pub bytes_sum : (ev : Bool) (s : List ℕ) → kept_bytes (pieces ev 0 s) + skipped_bytes (pieces ev 0 s) + cut_bytes (pieces ev 0 s) ≡ length s
bytes_sum ev s = total_from ev 0 s ∙ omega arith

-- a payload of no bytes has no pieces
pub no_pieces : (ev : Bool) → pieces ev 0 [] ≡ []
unfolding pieces
no_pieces ev = refl
