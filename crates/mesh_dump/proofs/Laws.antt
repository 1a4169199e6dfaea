-- Laws of lines, and what the loop that fills a buffer keeps. Assumes nothing.
use Prim.Native.Nat.{ℕ, suc, ◌+◌, ◌-◌, ◌*◌, ◌≤◌, ◌<◌}
use native.Mathlib.Numerals.{add-one}
use native.Mathlib.Omega.{arith}
use mathlib.Core.Path.{◌≡◌, refl, sym, ap, ◌∙◌}
use mathlib.Core.Bool.{Bool, true, false, cond}
use Rattle.std.specs.Prelude.{Some, None}
use Rattle.std.specs.declared.option.Option.{Option}
use Rattle.std.specs.Option.{unwrap_or}
use Rattle.std.specs.List.{position, position_or_len}
use Rattle.std.proofs.lemmas.List.Recursion.{is_position_or_len}
use mathlib.Core.List.{List, [], ◌∷◌, ◌++◌, append-nil, append_assoc}
use lib.Dec.{ltb, eqb}
use lib.ListN.{length, take, drop, replicate, length-append, length-drop, length-replicate, get_or-replicate, drop_of_length-le}
use lib.Seq.{append_snoc, drop-cons, drop-drop, take_at, take_all}
use borrow.Author.Tests.{lt-ltb, le-ltb, ltb-true, ltb-false, ne_eqb}
use Rattle.base.specs.Pick.{pick}
use Rattle.base.specs.Lists.{joined}
use Rattle.base.specs.Answers.{bytes, answer_of, out_of}
use Rattle.base.specs.declared.Written.TheVariants.{Bytes, Refused}
use Rattle.base.proofs.Answers.{room, out_length}
use Rattle.wire.specs.Lay.{put}
use Rattle.wire.specs.Part.{part_of}
use Rattle.wire.proofs.Laws.Lay.{put_front, put_length, put_nil, two_puts}
use Rattle.dump.specs.Dump.{line_text}
use Rattle.dump.proofs.Laws.Text.{line_text_most}
use Rattle.mesh_dump.specs.Output.{lines_from, line_out, dump_of, too_long, printed, first_line, left_of, Filling}

-- ---- the first line, and the others

pub first_most : (s : List ℕ) → length (first_line s) ≤ length s
unfolding first_line
first_most [] = omega arith
first_most (x ∷ s) = by (eqb x 10) (first_most s)
  where
    by : (t : Bool) → length (first_line s) ≤ length s → length (pick t [] (x ∷ first_line s)) ≤ suc (length s)
    by true h = omega arith
    by false h = omega arith

first_take : (s : List ℕ) → take (length (first_line s)) s ≡ first_line s
unfolding first_line
first_take [] = refl
first_take (x ∷ s) = by (eqb x 10) (first_take s)
  where
    by : (t : Bool) → take (length (first_line s)) s ≡ first_line s → take (length (pick t [] (x ∷ first_line s))) (x ∷ s) ≡ pick t [] (x ∷ first_line s)
    by true e = refl
    by false e = ap {B = List ℕ} (λ l. x ∷ l) e

lines_first : (l s : List ℕ) → 1 ≤ length l + length s → lines_from l s ≡ (l ++ first_line s) ∷ lines_from [] (drop (suc (length (first_line s))) s)
unfolding lines_from first_line
lines_first l [] h = simp (ne_eqb (length l) 0 (λ e. omega arith), append-nil)
lines_first l (x ∷ s) h = let a = length-append l (x ∷ []) in by (eqb x 10) (lines_first (l ++ (x ∷ [])) s (omega arith))
  where
    by : (t : Bool) → lines_from (l ++ (x ∷ [])) s ≡ ((l ++ (x ∷ [])) ++ first_line s) ∷ lines_from [] (drop (suc (length (first_line s))) s)
        → pick t (l ∷ lines_from [] s) (lines_from (l ++ (x ∷ [])) s)
        ≡ (l ++ pick t [] (x ∷ first_line s)) ∷ lines_from [] (drop (suc (length (pick t [] (x ∷ first_line s)))) (x ∷ s))
    by true e = simp append-nil
    by false e = e ∙ rw (append_snoc l x (first_line s)) refl

pub dump_first : (s : List ℕ) → 1 ≤ length s → dump_of s ≡ line_out (first_line s) ++ dump_of (drop (suc (length (first_line s))) s)
unfolding dump_of joined
dump_first s h = ap (joined line_out) (lines_first [] s (omega arith))

-- ---- it ends where the first newline is, or with the whole

first_cons : (x : ℕ) (s : List ℕ) → length (first_line (x ∷ s)) ≡ cond (eqb x 10) 0 (1 + length (first_line s))
unfolding first_line
first_cons x s = by (eqb x 10)
  where
    by : (t : Bool) → length (pick t [] (x ∷ first_line s)) ≡ cond t 0 (1 + length (first_line s))
    by true = refl
    by false = omega arith

first_none : length (first_line []) ≡ 0
unfolding first_line
first_none = refl

pub first_at : (s : List ℕ) (o : Option ℕ) (n : ℕ) → o ≡ position (λ b. eqb b 10) s → n ≡ length s → unwrap_or o n ≡ length (first_line s)
first_at s o n e l = rw (e, l) (by (ltb (position_or_len (λ b. eqb b 10) s) (length s)) refl)
  where
    at : length (first_line s) ≡ position_or_len (λ b. eqb b 10) s
    at = is_position_or_len (λ s. length (first_line s)) (λ b. eqb b 10) first_none first_cons s

    by : (t : Bool) → ltb (position_or_len (λ b. eqb b 10) s) (length s) ≡ t
        → unwrap_or (cond t (Some (position_or_len (λ b. eqb b 10) s)) None) (length s) ≡ length (first_line s)
    by true q = sym at
    by false q = let a = ltb-false _ _ q in let m = first_most s in let f = at in omega arith

-- in what is left of the input from a place on
pub end_is : (s : List ℕ) (n k : ℕ) → k ≡ length (first_line (take (length s - n) (drop n s))) → n + k ≡ n + length (first_line (drop n s))
end_is s n k e = ap (λ (j : ℕ). n + j) (e ∙ ap (λ (l : List ℕ). length (first_line l)) (take_all (length s - n) (drop n s) (omega (arith, length-drop n s))))

-- ---- one line: its text in an array of newlines

line_out_length : (l : List ℕ) → length (line_out l) ≡ length (line_text l) + 1
unfolding line_out
line_out_length l = length-append (line_text l) (10 ∷ [])

pub line_out_most : (l : List ℕ) → length (line_out l) ≤ 91
line_out_most l = let a = line_out_length l in let b = line_text_most l in omega arith

module _ (l : List ℕ) where
  fits : length (line_text l) ≤ length (replicate {A = ℕ} 91 10)
  fits = rw (length-replicate {A = ℕ} 91 10) (let b = line_text_most l in omega arith)

  pub text_fits : (n : ℕ) → Refused n ≡ answer_of (bytes (line_text l)) (replicate 91 10) → ⊥
  text_fits n e = let r = (room (line_text l) (replicate 91 10) fits).0 in let z : ◌≡◌ {A = ℕ} 0 1 = cc in omega arith

  module _ (n : ℕ) (e : Bytes n ≡ answer_of (bytes (line_text l)) (replicate 91 10)) where
    text_length : n ≡ length (line_text l)
    text_length = let r = (room (line_text l) (replicate 91 10) fits).0 in cc

    pub text_most : n ≤ 90
    text_most = let t = text_length in let b = line_text_most l in omega arith

    pub text_out : n + 1 ≡ length (line_out l)
    text_out = let t = text_length in let b = line_out_length l in omega arith

    -- the byte behind the text is still a newline
    behind : drop n (replicate {A = ℕ} 91 10) ≡ 10 ∷ drop (n + 1) (replicate 91 10)
    behind =
        let m = text_most in
        let z = length-replicate {A = ℕ} 91 10 in
        let h : n < length (replicate {A = ℕ} 91 10) = omega arith in
        rw (add-one, drop-cons (replicate {A = ℕ} 91 10) n 0 h, get_or-replicate {A = ℕ} 91 n 10 0) refl

    pub text_part : (x v : List ℕ) → x ≡ out_of (bytes (line_text l)) (replicate 91 10) → v ≡ part_of x 0 (n + 1) → v ≡ line_out l
    unfolding line_out part_of
    text_part x v ex ev =
        let t = text_length in
        let m = text_most in
        let w : x ≡ (line_text l ++ (10 ∷ [])) ++ drop (n + 1) (replicate 91 10) = ex ∙ (room (line_text l) (replicate 91 10) fits).1 ∙ rw (← t, behind) (sym (append_snoc (line_text l) 10 (drop (n + 1) (replicate 91 10)))) in
        let a = length-append (line_text l) (10 ∷ []) in
        let z = length-replicate {A = ℕ} 91 10 in
        let q : length x ≡ 91 = ap length ex ∙ out_length (bytes (line_text l)) (replicate 91 10) ∙ z in
        ev ∙ simp (le-ltb (length x) 0 (omega arith), le-ltb (length x - 0) (n + 1) (omega arith))
        (ap (take (n + 1)) w ∙ take_at (line_text l ++ (10 ∷ [])) (drop (n + 1) (replicate 91 10)) (n + 1) (omega arith))

-- ---- filling a buffer

pub record Sofar (s : List ℕ) (from : ℕ) (o out : List ℕ) (len next : ℕ) : Type 0 where
  pub front : List ℕ
  pub long : length front ≡ len
  pub fits : len ≤ length o
  pub lies : out ≡ put o 0 front
  pub rest : dump_of (drop from s) ≡ front ++ dump_of (drop next s)
  -- a line takes a byte of the input at least
  pub each : len + 91 * from ≤ 91 * next

pub sofar_none : (s : List ℕ) (from : ℕ) (o : List ℕ) → Sofar s from o o 0 from
sofar_none s from o = record { front = []; long = refl; fits = omega arith; lies = put_nil o 0; rest = refl; each = omega arith }

module _ (s : List ℕ) (from : ℕ) (o out : List ℕ) (len next : ℕ) (f : Sofar s from o out len next) where
  pub sofar_length : length out ≡ length o
  sofar_length = rw f.lies (put_length o 0 f.front)

  pub sofar_more : (end k : ℕ) (l out2 : List ℕ) → next < length s → 91 ≤ length out - len
      → end ≡ next + length (first_line (drop next s)) → l ≡ part_of s next (end - next)
      → k ≡ length (line_out l) → out2 ≡ put out len (line_out l) → Sofar s from o out2 (len + k) (end + 1)
  unfolding part_of
  sofar_more end k l out2 h r ee el ek eo =
      let d = length-drop next s in
      let m = first_most (drop next s) in
      let t = line_out_most l in
      let g = sofar_length in
      let fl = f.long in
      let fe = f.each in
      let ff = f.fits in
      let p : next + suc (length (first_line (drop next s))) ≡ end + 1 = omega arith in
      let en : end - next ≡ length (first_line (drop next s)) = omega arith in
      let el2 : l ≡ first_line (drop next s) =
      el ∙ simp (le-ltb (length s) next (omega arith), le-ltb (length s - next) (end - next) (omega arith)) (rw en (first_take (drop next s))) in
      let a = length-append f.front (line_out l) in
      let step : dump_of (drop next s) ≡ line_out l ++ dump_of (drop (end + 1) s) =
      dump_first (drop next s) (omega arith)
      ∙ ap (λ (x : List ℕ). line_out x ++ dump_of (drop (suc (length (first_line (drop next s)))) (drop next s))) (sym el2)
      ∙ ap (λ (x : List ℕ). line_out l ++ dump_of x) (drop-drop (suc (length (first_line (drop next s)))) next s ∙ ap (λ (k : ℕ). drop k s) p) in
      record {
        front = f.front ++ line_out l;
        long = omega arith;
        fits = omega arith;
        lies = eo ∙ rw f.lies (two_puts o f.front (line_out l) len f.long (omega arith));
        rest = f.rest ∙ rw step (sym (append_assoc f.front (line_out l) (dump_of (drop (end + 1) s))));
        each = omega arith;
      }

  sofar_done : from < next → Filling (λ n. dump_of (drop n s)) from out len next
  sofar_done m =
      let g = sofar_length in
      let fl = f.long in
      let ff = f.fits in
      let h : length f.front ≤ length o = omega arith in
      let t : take len out ≡ f.front = ap (take len) (f.lies ∙ put_front o f.front h ∙ (room f.front o h).1) ∙ take_at f.front (drop (length f.front) o) len fl in
      record { within = omega arith; whole = f.rest ∙ ap (λ (x : List ℕ). x ++ dump_of (drop next s)) (sym t); moves = m }

  pub sofar_full : 91 ≤ length o → length out - len < 91 → Filling (λ n. dump_of (drop n s)) from out len next
  sofar_full m h = let e = f.each in let g = sofar_length in sofar_done (omega arith)

  pub sofar_end : from < length s → length s ≤ next → Filling (λ n. dump_of (drop n s)) from out len next
  sofar_end m h = sofar_done (omega arith)

-- ---- what is left to be printed

-- all of it at the input's start, and nothing from its end on
pub left_start : (s : List ℕ) → left_of s 0 ≡ printed s
unfolding left_of printed
left_start s = by (ltb 65536 (length s)) refl
  where
    by : (t : Bool) → ltb 65536 (length s) ≡ t → pick t (pick (ltb 0 (length s)) too_long []) (dump_of s) ≡ pick t too_long (dump_of s)
    by true q = let h : 65536 < length s = ltb-true _ _ q in simp (lt-ltb 0 (length s) (omega arith))
    by false q = refl

pub left_end : (s : List ℕ) (n : ℕ) → length s ≤ n → left_of s n ≡ []
unfolding left_of dump_of lines_from joined
left_end s n h = simp (le-ltb n (length s) h, drop_of_length-le s h) (by (ltb 65536 (length s)))
  where
    by : (t : Bool) → ◌≡◌ {A = List ℕ} (pick t [] []) []
    by true = refl
    by false = refl

module _ (s : List ℕ) (from : ℕ) where
  pub left_long : 65536 < length s → from < length s → (o x : List ℕ) → 91 ≤ length o → x ≡ put o 0 too_long → Filling (left_of s) from x 15 (length s)
  unfolding left_of
  left_long h m o x r e =
      let l = put_length o 0 too_long in
      let g : length x ≡ length o = ap length e ∙ l in
      let z : length too_long ≤ length o = omega arith in
      let t : take 15 x ≡ too_long = ap (take 15) (e ∙ put_front o too_long z ∙ (room too_long o z).1) in
      record {
        within = omega arith;
        whole = simp (lt-ltb 65536 (length s) h, lt-ltb from (length s) m, le-ltb (length s) (length s) (omega arith), append-nil) (sym t);
        moves = m;
      }

  pub left_lines : length s ≤ 65536 → (x : List ℕ) (len next : ℕ) → Filling (λ n. dump_of (drop n s)) from x len next → Filling (left_of s) from x len next
  unfolding left_of
  left_lines h x len next f =
      record { within = f.within; whole = simp (le-ltb 65536 (length s) h) f.whole; moves = f.moves }
