-- A payload is clean exactly if what is written of it is the payload. Assumes nothing.
use Prim.Native.Nat.{ℕ, zero, suc, ◌%◌, ◌≤◌, ◌<◌}
use native.Mathlib.Omega.{arith}
use mathlib.Core.Bool.{Bool, true, false, ◌&&◌, and-eq-true_iff}
use mathlib.Core.Path.{◌≡◌, refl, sym, ap, ap₂, ◌∙◌}
use mathlib.Core.List.{List, [], ◌∷◌, ◌++◌}
use lib.Dec.{leb}
use lib.ListN.{length, take, drop, length-drop, take-append-drop}
use lib.Seq.{length-take-le, take_at, drop_at}
use borrow.Author.Tests.{leb-true, leb-false}
use Rattle.base.specs.Pick.{pick}
use Rattle.base.specs.Lists.{Bytes, imap}
use Rattle.base.proofs.Lists.{imap_length}
use Rattle.fields.specs.Path.{all_even}
use Rattle.fields.proofs.Laws.Path.{entries_as_written}
use Rattle.items.specs.Items.{is_beat, bad_beat, Piece, kept, skipped, cut, pieces, kept_bytes, kept_clean, is_clean, opening_of}
use Rattle.items.proofs.Laws.{skip, step, stop, bytes_sum}
use Rattle.kept_items.specs.Kept.{fixed, item_bytes, kept_wire, open_bytes}
use Rattle.kept_items.proofs.Laws.{fixed_plain, kept_length}

-- pieces are clean exactly if what is written of them is s
abbrev Exactly : Bool → List Piece → List ℕ → Type 0
Exactly ev ps s = (is_clean ev ps ≡ true → kept_wire ev ps ≡ s) × (kept_wire ev ps ≡ s → is_clean ev ps ≡ true)

-- ---- a value

value_clean : (v : List ℕ) (beat : Bool)
    → (pick beat (all_even v) true ≡ true → imap (fixed beat) 0 v ≡ v) × (imap (fixed beat) 0 v ≡ v → pick beat (all_even v) true ≡ true)
unfolding fixed
value_clean v true = entries_as_written v
value_clean v false = (λ e. fixed_plain v, λ e. refl)

-- ---- one piece more

module _ (ev : Bool) (t n : ℕ) (s : List ℕ) where
  module _ (small : n < 256) (whole : n ≤ length s) (ps : List Piece) where
    abbrev value : List ℕ
    value = imap (fixed (is_beat ev t)) 0 (take n s)

    long : length value ≡ n
    long = imap_length (fixed (is_beat ev t)) 0 (take n s) ∙ length-take-le n s whole

    written : kept_wire ev (kept t (take n s) ∷ ps) ≡ t ∷ n ∷ (value ++ kept_wire ev ps)
    unfolding kept_wire item_bytes
    written = let l = long in let m : length value % 256 ≡ n = omega arith in ap (λ (k : ℕ). t ∷ k ∷ (value ++ kept_wire ev ps)) m

    one_kept : Exactly ev ps (drop n s) → Exactly ev (kept t (take n s) ∷ ps) (t ∷ n ∷ s)
    one_kept rest = (there, back)
      where
        there : is_clean ev (kept t (take n s) ∷ ps) ≡ true → kept_wire ev (kept t (take n s) ∷ ps) ≡ t ∷ n ∷ s
        there e =
            let b = (and-eq-true_iff (kept_clean ev t (take n s)) (is_clean ev ps)).0 e in
            written ∙ ap₂ (λ (x y : List ℕ). t ∷ n ∷ (x ++ y)) ((value_clean (take n s) (is_beat ev t)).0 b.0) (rest.0 b.1)
            ∙ ap (λ (x : List ℕ). t ∷ n ∷ x) (take-append-drop n s)

        back : kept_wire ev (kept t (take n s) ∷ ps) ≡ t ∷ n ∷ s → is_clean ev (kept t (take n s) ∷ ps) ≡ true
        back e =
            let q = sym written ∙ e in
            let w : value ++ kept_wire ev ps ≡ s = cc in
            let a : value ≡ take n s = sym (take_at value (kept_wire ev ps) n long) ∙ ap (take n) w in
            let b : kept_wire ev ps ≡ drop n s = sym (drop_at value (kept_wire ev ps) n long) ∙ ap (drop n) w in
            ap₂ (λ (x y : Bool). x && y) ((value_clean (take n s) (is_beat ev t)).1 a) (rest.1 b)

  one_skipped : (v : List ℕ) (ps : List Piece) → kept_bytes ps ≤ length s → Exactly ev (skipped v ∷ ps) (t ∷ n ∷ s)
  unfolding kept_wire
  one_skipped v ps h = (
    λ e. let z : ◌≡◌ {A = ℕ} 0 1 = cc in absurd (omega arith),
    λ e. let a = ap length e in let b = kept_length ev ps in absurd (omega arith),
  )

one_cut : (ev : Bool) (v : List ℕ) (x : ℕ) (s : List ℕ) → Exactly ev (cut v ∷ []) (x ∷ s)
unfolding kept_wire
one_cut ev v x s =
    (λ e. let z : ◌≡◌ {A = ℕ} 0 1 = cc in absurd (omega arith), λ e. let a = ap length e in absurd (omega arith))

-- ---- a payload

clean_step : (ev : Bool) (t n : ℕ) (s : List ℕ) → n < 256 → Exactly ev (pieces ev n s) (drop n s) → (b d : Bool) → leb n (length s) ≡ b → bad_beat ev t n ≡ d
    → Exactly ev (pieces ev 0 (t ∷ n ∷ s)) (t ∷ n ∷ s)
clean_step ev t n s small rest true true p q =
    let h : n ≤ length s = leb-true _ _ p in
    let l = length-drop n s in
    let m = bytes_sum ev (drop n s) in
    rw (step ev t n s h, q) (one_skipped ev t n s (take n s) (pieces ev 0 (drop n s)) (omega arith))
clean_step ev t n s small rest true false p q =
    let h : n ≤ length s = leb-true _ _ p in
    let r = rw (skip ev n s) at rest in
    rw (step ev t n s h, q) (one_kept ev t n s small h (pieces ev 0 (drop n s)) r)
clean_step ev t n s small rest false d p q = rw (stop ev t n s (leb-false _ _ p)) (one_cut ev (t ∷ n ∷ s) t (n ∷ s))

clean_from : (ev : Bool) (k : ℕ) (s : List ℕ) → Bytes s → Exactly ev (pieces ev k s) (drop k s)
unfolding pieces kept_wire
clean_from ev (suc k) [] h = (λ e. refl, λ e. refl)
clean_from ev (suc k) (x ∷ s) h = clean_from ev k s (λ i. h (suc i))
clean_from ev zero [] h = (λ e. refl, λ e. refl)
clean_from ev zero (t ∷ []) h = one_cut ev (t ∷ []) t []
clean_from ev zero (t ∷ n ∷ s) h = clean_step ev t n s (h 1) (clean_from ev n s (λ i. h (suc (suc i)))) _ _ refl refl

pub clean_as_written : (ev : Bool) (s : List ℕ) → Bytes s → ((opening_of ev s).clean ≡ true → open_bytes ev s ≡ s) × (open_bytes ev s ≡ s → (opening_of ev s).clean ≡ true)
unfolding opening_of open_bytes
clean_as_written ev s h = clean_from ev 0 s h
