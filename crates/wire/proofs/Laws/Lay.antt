-- Laws of bytes laid into a buffer, and what a loop that lays them keeps. Assumes nothing.
use Prim.Native.Nat.{ℕ, ◌+◌, ◌≤◌, ◌<◌}
use native.Mathlib.Nat.{zero-add}
use native.Mathlib.Numerals.{add-one}
use native.Mathlib.Omega.{arith}
use mathlib.Core.Path.{◌≡◌, refl, sym, ap, ◌∙◌}
use mathlib.Core.Bool.{Bool, true, false}
use mathlib.Core.List.{List, [], ◌++◌, append_assoc, append-nil}
use lib.Dec.{leb}
use lib.ListN.{length, take, drop, set, get_or, length-append, length-drop, length-set}
use lib.Seq.{paste, paste-zero, paste-suc, take-length, drop-length, take_at, drop-append-add, drop-drop, length-take-le}
use borrow.Author.Tests.{le-leb, lt-leb, leb-true}
use Rattle.base.specs.Pick.{pick}
use Rattle.base.specs.Answers.{bytes, out_of}
use Rattle.base.proofs.Answers.{room}
use Rattle.wire.specs.Lay.{laid, put}

-- what does not fit changes nothing
pub put_none : (o : List ℕ) (at : ℕ) (v : List ℕ) → length o < at + length v → put o at v ≡ o
unfolding put
put_none o at v h = simp (lt-leb (at + length v) (length o) h)

pub put_fits : (o : List ℕ) (at : ℕ) (v : List ℕ) → at + length v ≤ length o → put o at v ≡ laid o at v
unfolding put
put_fits o at v h = simp (le-leb (at + length v) (length o) h)

kept : (o : List ℕ) (at : ℕ) (v : List ℕ) (t : Bool) → leb (at + length v) (length o) ≡ t → length (pick t (laid o at v) o) ≡ length o
kept o at v true e =
    let h : at + length v ≤ length o = leb-true _ _ e in
    let a : at ≤ length o = omega arith in
    simp (length-append, length-take-le at o a, length-drop) (omega arith)
kept o at v false e = refl

pub put_length : (o : List ℕ) (at : ℕ) (v : List ℕ) → length (put o at v) ≡ length o
unfolding put
put_length o at v = kept o at v (leb (at + length v) (length o)) refl

-- and neither does nothing
pub put_nil : (o : List ℕ) (at : ℕ) → o ≡ put o at []
unfolding put
put_nil o at = by (leb (at + 0) (length o))
  where
    by : (t : Bool) → o ≡ pick t (laid o at []) o
    by true = paste-zero o at []
    by false = refl

-- what a writer leaves, where there is room, is its bytes put at the front
pub put_front : (o w : List ℕ) → length w ≤ length o → put o 0 w ≡ out_of (bytes w) o
put_front o w h =
    let a : 0 + length w ≤ length o = omega arith in
    put_fits o 0 w a ∙ rw zero-add (sym (room w o h).1)

-- what is as long as the buffer takes its place
pub put_whole : (o v : List ℕ) → length v ≡ length o → put o 0 v ≡ v
put_whole o v e =
    let a : 0 + length v ≤ length o = omega arith in
    let n : 0 + length v ≡ length o = omega arith in
    put_fits o 0 v a ∙ ap (λ (k : ℕ). v ++ drop k o) n ∙ rw (drop-length o) (append-nil v)

-- two runs, one behind the other, are one
laid_more : (o : List ℕ) (at : ℕ) (w v : List ℕ) → at ≤ length o → laid (laid o at w) (at + length w) v ≡ laid o at (w ++ v)
laid_more o at w v h =
    let l : length (take at o ++ w) ≡ at + length w = simp (length-append, length-take-le at o h) in
    let e : length (take at o ++ w) + length v ≡ at + length w + length v = omega arith in
    let g : at + length w + length v ≡ at + (length w + length v) = omega arith in
    rw (take_at _ _ _ l, ← e, drop-append-add, drop-drop, length-append, g, append_assoc (take at o) w v)

pub puts_join : (o : List ℕ) (at : ℕ) (w v : List ℕ) (n : ℕ) → n ≡ at + length w → at + length (w ++ v) ≤ length o → put (put o at w) n v ≡ put o at (w ++ v)
puts_join o at w v n e h =
    let l : length (w ++ v) ≡ length w + length v = length-append w v in
    let a : at + length w ≤ length o = omega arith in
    let b : at + length w + length v ≤ length (put o at w) = rw put_length (omega arith) in
    let d : at ≤ length o = omega arith in
    rw e (put_fits (put o at w) (at + length w) v b ∙ ap (λ (x : List ℕ). laid x (at + length w) v) (put_fits o at w a) ∙ laid_more o at w v d ∙ sym (put_fits o at (w ++ v) h))

pub two_puts : (o w v : List ℕ) (at : ℕ) → length w ≡ at → length (w ++ v) ≤ length o → put (put o 0 w) at v ≡ put o 0 (w ++ v)
two_puts o w v at e h = puts_join o 0 w v at (omega arith) (omega arith)

-- w is being laid into o from a place on, one piece after another: all but the rest of it lies there
pub record Joining (o : List ℕ) (at : ℕ) (w : List ℕ) (out : List ℕ) (n : ℕ) (rest : List ℕ) : Type 0 where
  pub front : List ℕ
  pub whole : w ≡ front ++ rest
  pub long : length front ≡ n
  pub fits : at + length w ≤ length o
  pub sofar : out ≡ put o at front

pub joining_none : (o : List ℕ) (at : ℕ) (w : List ℕ) → at + length w ≤ length o → Joining o at w o 0 w
joining_none o at w h =
    record { front = []; whole = refl; long = refl; fits = h; sofar = put_nil o at }

module _ (o : List ℕ) (at : ℕ) (w out : List ℕ) (n : ℕ) (rest : List ℕ) (j : Joining o at w out n rest) where
  pub joining_room : at + n + length rest ≤ length o
  joining_room =
      let a = ap length j.whole in
      let b = length-append j.front rest in
      let c = j.long in
      let f = j.fits in
      omega arith

  pub joining_same : length out ≡ length o
  joining_same = ap length j.sofar ∙ put_length o at j.front

  pub joining_more : (v more out2 : List ℕ) (m : ℕ) → rest ≡ v ++ more → m ≡ length v → out2 ≡ put out (at + n) v → Joining o at w out2 (n + m) more
  joining_more v more out2 m e l p =
      let x : w ≡ j.front ++ v ++ more = j.whole ∙ ap (λ (y : List ℕ). j.front ++ y) e ∙ sym (append_assoc j.front v more) in
      let a = ap length x in
      let b = length-append (j.front ++ v) more in
      let c = length-append j.front v in
      let d = j.long in
      let f = j.fits in
      let k : at + n ≡ at + length j.front = omega arith in
      let g : at + length (j.front ++ v) ≤ length o = omega arith in
      record {
        front = j.front ++ v;
        whole = x;
        long = omega arith;
        fits = f;
        sofar = p ∙ ap (λ (y : List ℕ). put y (at + n) v) j.sofar ∙ puts_join o at j.front v (at + n) k g;
      }

  pub joining_done : rest ≡ [] → out ≡ put o at w
  joining_done e = j.sofar ∙ ap (put o at) (sym (j.whole ∙ ap (λ (y : List ℕ). j.front ++ y) e ∙ append-nil j.front))

-- w is being laid into o from a place on: the first i of it lie there, and all else is as it was
pub record Laying (o : List ℕ) (at : ℕ) (w : List ℕ) (out : List ℕ) (i : ℕ) : Type 0 where
  pub most : i ≤ length w
  pub same : length out ≡ length o
  pub sofar : out ≡ paste o at w i

pub laying_none : (o : List ℕ) (at : ℕ) (w : List ℕ) → Laying o at w o 0
laying_none o at w = record { most = omega arith; same = refl; sofar = paste-zero o at w }

module _ (o : List ℕ) (at : ℕ) (w : List ℕ) (fits : at + length w ≤ length o) where
  pub laying_more : (out : List ℕ) (i b : ℕ) → i < length w → b ≡ get_or w i 0 → Laying o at w out i → Laying o at w (set out (at + i) b) (i + 1)
  laying_more out i b h e l =
      record {
        most = omega arith;
        same = length-set out (at + i) b ∙ l.same;
        sofar = rw (e, add-one) (ap (λ (x : List ℕ). set x (at + i) (get_or w i 0)) l.sofar ∙ paste-suc o at w i 0 (omega arith) h);
      }

  pub laying_done : (out : List ℕ) (i : ℕ) → length w ≤ i → Laying o at w out i → out ≡ put o at w
  laying_done out i h l =
      let e : i ≡ length w = omega arith in
      l.sofar ∙ rw (e, take-length w) (sym (put_fits o at w fits))
