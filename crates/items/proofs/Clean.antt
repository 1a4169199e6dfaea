-- Which payloads are clean: by what an opening reports and by the bytes of each path entry that it keeps; and of a command. Assumes nothing.
use Prim.Native.Nat.{ℕ, zero, suc, ◌+◌, ◌*◌, ◌≤◌, ◌<◌}
use native.Mathlib.Omega.{arith}
use mathlib.Core.Bool.{Bool, true, false, ◌&&◌, and-eq-true_iff, false≢true}
use mathlib.Core.Path.{◌≡◌, refl, sym, ap, ap₂, ◌∙◌}
use mathlib.Core.List.{List, [], ◌∷◌}
use lib.Dec.{leb, eqb}
use lib.ListN.{length, get_or, take, drop, length-drop, drop_of_length-le}
use lib.Seq.{length-take-le, get_or-take, get_or-drop}
use borrow.Author.Tests.{leb-true, leb-false, ne_eqb}
use Rattle.base.specs.Pick.{pick}
use Rattle.fields.specs.Signal.{snr_of}
use Rattle.fields.specs.Path.{all_even}
use Rattle.fields.proofs.Laws.Path.{even_entries}
use Rattle.items.specs.Items.{is_beat, bad_beat, Piece, kept, skipped, cut, pieces, item_at, skipped_items, cut_bytes, kept_clean, is_clean, opening_of, next_of, walked_to}
use Rattle.items.specs.declared.item.Item.{Item}
use Rattle.items.specs.declared.item.ItemRead.{ItemRead}
use Rattle.items.specs.declared.item.ItemRead.TheVariants.{Kept, Skipped, Cut, End, Refused}
use Rattle.items.proofs.Laws.{skip, step, stop, turn, nearer}

-- what is clean skipped and cut nothing
clean_lost : (ev : Bool) (ps : List Piece) → is_clean ev ps ≡ true → (skipped_items ps ≡ 0) × (cut_bytes ps ≡ 0)
clean_lost ev [] e = (refl, refl)
clean_lost ev (kept t v ∷ ps) e = clean_lost ev ps ((and-eq-true_iff (kept_clean ev t v) (is_clean ev ps)).0 e).1
clean_lost ev (skipped v ∷ ps) e = absurd (false≢true e)
clean_lost ev (cut v ∷ ps) e = absurd (false≢true e)

-- whether a heartbeat that was kept is clean, by the bytes of its value: those that each entry ends with
module _ (ev : Bool) (s : List ℕ) (at : ℕ) (i : Item) (nx : ℕ) (e : item_at ev s at ≡ Kept i nx) where
  abbrev BeatEven : Type 0
  BeatEven = is_beat ev i.tag ≡ true → (k : ℕ) → k * 6 + 6 ≤ i.value.len → (snr_of (get_or s (i.value.start + k * 6 + 5) 0)).odd ≡ 0

  abbrev value : List ℕ
  value = take (get_or s (at + 1) 0) (drop (at + 2) s)

  long : length value ≡ get_or s (at + 1) 0
  long = let u = turn ev s at _ e in length-take-le (get_or s (at + 1) 0) (drop (at + 2) s) (simp length-drop (omega arith))

  odd_of_lem : (k : ℕ) → k * 6 + 5 < get_or s (at + 1) 0 → (snr_of (get_or value (k * 6 + 5) 0)).odd ≡ (snr_of (get_or s (i.value.start + k * 6 + 5) 0)).odd
  odd_of_lem k l =
      let u = turn ev s at _ e in
      let start : i.value.start ≡ at + 2 = ap (λ (x : Item). x.value.start) u.0 in
      let m : at + 2 + (k * 6 + 5) ≡ i.value.start + k * 6 + 5 = omega arith in
      ap (λ (b : ℕ). (snr_of b).odd)
      (get_or-take (get_or s (at + 1) 0) (drop (at + 2) s) (k * 6 + 5) 0 l ∙ get_or-drop (at + 2) s (k * 6 + 5) 0 ∙ ap (λ (n : ℕ). get_or s n 0) m)

  same_length : i.value.len ≡ get_or s (at + 1) 0
  same_length = ap (λ (x : Item). x.value.len) (turn ev s at _ e).0

  same_tag : i.tag ≡ get_or s at 0
  same_tag = ap (λ (x : Item). x.tag) (turn ev s at _ e).0

  kept_even : kept_clean ev (get_or s at 0) value ≡ true → BeatEven
  kept_even c b k l =
      let m = same_length in
      let n = long in
      let t : is_beat ev (get_or s at 0) ≡ true = ap (is_beat ev) (sym same_tag) ∙ b in
      let v : all_even value ≡ true = sym (ap (λ (x : Bool). pick x (all_even value) true) t) ∙ c in
      sym (odd_of_lem k (omega arith)) ∙ (even_entries value).0 v k (omega arith)

  even_kept : BeatEven → kept_clean ev (get_or s at 0) value ≡ true
  even_kept c = by (is_beat ev (get_or s at 0)) refl
    where
      by : (t : Bool) → is_beat ev (get_or s at 0) ≡ t → pick t (all_even value) true ≡ true
      by true p =
          (even_entries value).1
          (λ k l.
          let m = same_length in
          let n = long in
          odd_of_lem k (omega arith) ∙ c (ap (is_beat ev) same_tag ∙ p) k (omega arith))
      by false p = refl

module _ (ev : Bool) (s : List ℕ) where
  abbrev rest : ℕ → List Piece
  rest at = pieces ev 0 (drop at s)

  -- of each heartbeat that the reader keeps, from a place on
  abbrev pub BeatsEven : ℕ → Type 0
  BeatsEven at = (n : ℕ) (i : Item) (nx : ℕ) (e : item_at ev s (walked_to ev s n at) ≡ Kept i nx) → BeatEven ev s (walked_to ev s n at) i nx e

  rest_none : (at : ℕ) → length s ≤ at → rest at ≡ []
  unfolding pieces
  rest_none at h = ap (pieces ev 0) (drop_of_length-le s h)

  clean_next : (at : ℕ) → is_clean ev (rest at) ≡ true → (r : ItemRead) → item_at ev s at ≡ r → is_clean ev (rest (next_of r)) ≡ true
  clean_next at c (Kept i nx) e = ((and-eq-true_iff (kept_clean ev (get_or s at 0) (value ev s at i nx e)) (is_clean ev (rest nx))).0 (sym (ap (is_clean ev) (turn ev s at _ e).3) ∙ c)).1
  clean_next at c (Skipped i nx) e = absurd (false≢true (sym (ap (is_clean ev) (turn ev s at _ e).3) ∙ c))
  clean_next at c (Cut r nx) e = absurd (false≢true (sym (ap (is_clean ev) (turn ev s at _ e).3) ∙ c))
  clean_next at c (End nx) e = let u = turn ev s at _ e in ap (is_clean ev) (rest_none nx (omega arith))
  clean_next at c (Refused n) e = absurd (turn ev s at _ e)

  clean_walk : (n at : ℕ) → is_clean ev (rest at) ≡ true → is_clean ev (rest (walked_to ev s n at)) ≡ true
  unfolding walked_to
  clean_walk zero at c = c
  clean_walk (suc n) at c = clean_walk n _ (clean_next at c _ refl)

  clean_beats : (at : ℕ) → is_clean ev (rest at) ≡ true → BeatsEven at
  clean_beats at c n i nx e =
      let p = walked_to ev s n at in
      kept_even ev s p i nx e
      ((and-eq-true_iff (kept_clean ev (get_or s p 0) (value ev s p i nx e)) (is_clean ev (rest nx))).0 (sym (ap (is_clean ev) (turn ev s p _ e).3) ∙ clean_walk n at c)).0

  step_clean : (n at : ℕ) → length s ≤ at + suc n
      → ((nx : ℕ) → length s ≤ nx + n → skipped_items (rest nx) ≡ 0 → cut_bytes (rest nx) ≡ 0 → BeatsEven nx → is_clean ev (rest nx) ≡ true)
      → (r : ItemRead) → item_at ev s at ≡ r → skipped_items (rest at) ≡ 0 → cut_bytes (rest at) ≡ 0 → BeatsEven at → is_clean ev (rest at) ≡ true
  unfolding walked_to
  step_clean n at h ih (Kept i nx) e p q b =
      let u = turn ev s at _ e in
      let l : length s ≤ nx + n = rw (ap next_of e) at (nearer ev s n at h) in
      ap (is_clean ev) u.3
      ∙ ap₂ ◌&&◌ (even_kept ev s at i nx e (b 0 i nx e))
      (ih nx l (sym (ap skipped_items u.3) ∙ p) (sym (ap cut_bytes u.3) ∙ q)
      (λ k j m z. b (suc k) j m (ap (λ (x : ItemRead). item_at ev s (walked_to ev s k (next_of x))) e ∙ z)))
  step_clean n at h ih (Skipped i nx) e p q b = let u = ap skipped_items (turn ev s at _ e).3 in absurd (omega arith)
  step_clean n at h ih (Cut r nx) e p q b =
      let t = turn ev s at _ e in let u = ap cut_bytes t.3 in let l = length-drop at s in absurd (omega arith)
  step_clean n at h ih (End nx) e p q b = ap (is_clean ev) (turn ev s at _ e).2
  step_clean n at h ih (Refused k) e p q b = absurd (turn ev s at _ e)

  whole_clean : (n at : ℕ) → length s ≤ at + n → skipped_items (rest at) ≡ 0 → cut_bytes (rest at) ≡ 0 → BeatsEven at → is_clean ev (rest at) ≡ true
  whole_clean zero at h p q b = ap (is_clean ev) (rest_none at (omega arith))
  whole_clean (suc n) at h p q b = step_clean n at h (whole_clean n) _ refl p q b

  -- a payload is clean exactly if it skipped and cut nothing and each heartbeat that is kept is
  pub clean_whole : ((opening_of ev s).clean ≡ true → ((opening_of ev s).skipped ≡ 0) × ((opening_of ev s).cut_bytes ≡ 0) × BeatsEven 0)
      × (((opening_of ev s).skipped ≡ 0) × ((opening_of ev s).cut_bytes ≡ 0) × BeatsEven 0 → (opening_of ev s).clean ≡ true)
  unfolding opening_of
  clean_whole =
      (λ c. let l = clean_lost ev (pieces ev 0 s) c in (l.0, l.1, clean_beats 0 c), λ a. whole_clean (length s) 0 (omega arith) a.0 a.1 a.2)

-- a command's is clean where nothing is cut
command_step : (t n : ℕ) (s : List ℕ) → is_clean false (pieces false n s) ≡ eqb (cut_bytes (pieces false n s)) 0 → (b : Bool) → leb n (length s) ≡ b
    → is_clean false (pieces false 0 (t ∷ n ∷ s)) ≡ eqb (cut_bytes (pieces false 0 (t ∷ n ∷ s))) 0
unfolding bad_beat
command_step t n s ih true p = rw (step false t n s (leb-true _ _ p)) (rw (skip false n s) at ih)
command_step t n s ih false p =
    let z : suc (suc (length s)) + 0 ≡ 0 → ⊥ = λ q. omega arith in
    rw (stop false t n s (leb-false _ _ p)) (sym (ne_eqb (suc (suc (length s)) + 0) 0 z))

command_from : (k : ℕ) (s : List ℕ) → is_clean false (pieces false k s) ≡ eqb (cut_bytes (pieces false k s)) 0
unfolding pieces
command_from (suc k) [] = refl
command_from (suc k) (x ∷ s) = command_from k s
command_from zero [] = refl
command_from zero (t ∷ []) = refl
command_from zero (t ∷ n ∷ s) = command_step t n s (command_from n s) _ refl

pub command_clean : (s : List ℕ) → (opening_of false s).clean ≡ eqb (opening_of false s).cut_bytes 0
unfolding opening_of
command_clean s = command_from 0 s
