-- What reading a whole input and printing it keep, turn by turn. Assumes nothing.
use Prim.Native.Nat.{ℕ, ◌+◌, ◌-◌, ◌≤◌, ◌<◌}
use native.Mathlib.Omega.{arith}
use mathlib.Core.Path.{◌≡◌, refl, sym, ap, ◌∙◌}
use mathlib.Core.Bool.{Bool, true, false}
use mathlib.Core.List.{List, [], ◌++◌, append-nil, append_assoc}
use lib.ListN.{length, take, length-append}
use lib.Dec.{ltb}
use borrow.Author.Tests.{lt-ltb, le-ltb, ltb-true, ltb-false}
use borrow.Rule.Slice.PartMut.{put_mid, post_of}
use Rattle.std.proofs.Common.{length-take-le}
use Rattle.std.proofs.Math.Seq.{take-append-add}
use Rattle.std.proofs.lemmas.List.{take-append-le}
use Rattle.std.specs.Prelude.{None, Some, IfSome}
use Rattle.std.specs.declared.option.Option.{Option}
use Rattle.std.specs.Io.KnownBytes.{Appends, Consumes, IsAtEnd}
use Rattle.wire.specs.Part.{part_of}
use Rattle.mesh_dump.specs.Output.{too_long, printed, left_of, Filling}
use Rattle.mesh_dump.proofs.Laws.{left_start, left_end}

-- ---- what is written

appends_none : (old : Option (List ℕ)) → Appends old old []
appends_none None = tt
appends_none (Some xs) = sym (append-nil xs)

appends_more : (old mid new : Option (List ℕ)) (a b : List ℕ) → Appends old mid a → Appends mid new b → Appends old new (a ++ b)
appends_more None mid new a b h k = tt
appends_more (Some xs) None new a b h k = absurd h
appends_more (Some xs) (Some ys) None a b h k = absurd k
appends_more (Some xs) (Some ys) (Some zs) a b h k = k ∙ rw h (append_assoc xs a b)

-- so far a front of all that is printed was written, and what is left at a place is the rest
pub record Written (s : List ℕ) (old new : Option (List ℕ)) (next : ℕ) : Type 0 where
  pub front : List ℕ
  pub whole : printed s ≡ front ++ left_of s next
  pub wrote : Appends old new front

pub written_none : (s : List ℕ) (old : Option (List ℕ)) → Written s old old 0
written_none s old = record { front = []; whole = sym (left_start s); wrote = appends_none old }

pub written_more : (s : List ℕ) (old mid new : Option (List ℕ)) (from : ℕ) (out l : List ℕ) (len next : ℕ)
    → Written s old mid from → Filling (left_of s) from out len next → l ≡ part_of out 0 len → Appends mid new l → Written s old new next
unfolding part_of
written_more s old mid new from out l len next w f e a =
    let h = f.within in
    let p : l ≡ take len out = e ∙ simp (le-ltb (length out) 0 (omega arith), le-ltb (length out - 0) len (omega arith)) in
    record {
      front = w.front ++ l;
      whole = w.whole ∙ rw f.whole (ap (λ (x : List ℕ). w.front ++ (x ++ left_of s next)) (sym p) ∙ sym (append_assoc w.front l (left_of s next)));
      wrote = appends_more old mid new w.front l w.wrote a;
    }

pub written_all : (s : List ℕ) (old new : Option (List ℕ)) (next : ℕ) → length s ≤ next → Written s old new next → Appends old new (printed s)
written_all s old new next h w =
    let e : printed s ≡ w.front = w.whole ∙ rw (left_end s next h) (append-nil w.front) in
    rw e w.wrote

-- ---- what is read

consumes_more : (old mid new : Option (List ℕ)) (a b : List ℕ) → Consumes old mid a → Consumes mid new b → Consumes old new (a ++ b)
consumes_more None mid new a b h k = tt
consumes_more (Some xs) None new a b h k = absurd h
consumes_more (Some xs) (Some ys) None a b h k = absurd k
consumes_more (Some xs) (Some ys) (Some zs) a b h k = h ∙ rw k (sym (append_assoc a b zs))

-- the bytes that are kept where some were read behind the first n
take_put : (n k m : ℕ) (xs ys : List ℕ) → n ≤ length xs → m ≤ length ys → take (n + m) (put_mid n k xs ys) ≡ take n xs ++ take m ys
take_put n k m xs ys h g =
    let l : length (take n xs) ≡ n = length-take-le n xs h in
    ap (λ (i : ℕ). take (i + m) (put_mid n k xs ys)) (sym l)
    ∙ take-append-add (take n xs) (ys ++ post_of n k xs) m
    ∙ ap (λ (z : List ℕ). take n xs ++ z) (take-append-le m ys (post_of n k xs) g)

pub read_more : (old mid new : Option (List ℕ)) (n k m : ℕ) (xs ys : List ℕ) → n ≤ length xs → m ≤ length ys
    → Consumes old mid (take n xs) → Consumes mid new (take m ys) → Consumes old new (take (n + m) (put_mid n k xs ys))
read_more old mid new n k m xs ys h g a b = rw (take_put n k m xs ys h g) (consumes_more old mid new (take n xs) (take m ys) a b)

-- ---- both: what was read is the whole input, or its first 65,537 bytes, of which the same is printed

printed_long : (s : List ℕ) → 65536 < length s → printed s ≡ too_long
unfolding printed
printed_long s h = simp (lt-ltb 65536 (length s) h)

same_printed : (xs b : List ℕ) (n : ℕ) (ys : List ℕ) → length b ≡ 65537 → n ≤ length b → xs ≡ take n b ++ ys → (n < length b → ys ≡ []) → printed xs ≡ printed (take n b)
same_printed xs b n ys eb h e f = by (ltb n 65537) refl
  where
    by : (t : Bool) → ltb n 65537 ≡ t → printed xs ≡ printed (take n b)
    by true q =
        let a : n < 65537 = ltb-true _ _ q in
        ap printed (e ∙ rw (f (omega arith)) (append-nil (take n b)))
    by false q =
        let a : 65537 ≤ n = ltb-false _ _ q in
        let l = length-take-le n b h in
        let k = length-append (take n b) ys in
        let z : length xs ≡ length (take n b) + length ys = ap length e ∙ k in
        printed_long xs (omega arith) ∙ sym (printed_long (take n b) (omega arith))

pub all_printed : (old new : Option (List ℕ)) (b l : List ℕ) (n : ℕ) (was now : Option (List ℕ)) → length b ≡ 65537 → n ≤ length b
    → Consumes old new (take n b) → (n < length b → IsAtEnd new) → l ≡ part_of b 0 n → Appends was now (printed l)
    → IfSome old (λ s. Appends was now (printed s))
unfolding part_of
all_printed None new b l n was now eb h c f e w = tt
all_printed (Some xs) None b l n was now eb h c f e w = absurd c
all_printed (Some xs) (Some ys) b l n was now eb h c f e w =
    let p : l ≡ take n b = e ∙ simp (le-ltb (length b) 0 (omega arith), le-ltb (length b - 0) n (omega arith)) in
    rw (same_printed xs b n ys eb h c f) (rw p at w)
