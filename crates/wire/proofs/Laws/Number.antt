-- Laws of big-endian numbers, over the width. Assumes nothing.
use Prim.Native.Nat.{ℕ, zero, suc, ◌+◌, ◌*◌, ◌/◌, ◌%◌, ◌^◌, ◌<◌}
use native.Mathlib.Nat.{mod-lt, zero-lt-suc, pow-succ', mul-pos, mod-eq_of_lt, add-mul, mul_assoc, add_assoc, zero-add}
use native.Mathlib.Omega.{arith}
use mathlib.Core.Path.{◌≡◌, refl, sym, ap, ap₂, ◌∙◌}
use mathlib.Core.List.{List, [], ◌∷◌}
use lib.Arith.{mod-mul, digits_lt, digits_div, digits_mod}
use lib.Bits.{bit_xor, xor_block}
use lib.Dec.{lit<}
use lib.ListN.{length}
use Rattle.base.specs.Lists.{Bytes, added}
use Rattle.base.proofs.Lists.{◌◂◌}
use Rattle.wire.specs.Number.{be_more, be_of, be_bytes}

pub be_length : (w v : ℕ) → length (be_bytes w v) ≡ w
unfolding be_bytes
be_length zero v = refl
be_length (suc w) v = ap suc (be_length w v)

pub be_small : (w v : ℕ) → Bytes (be_bytes w v)
unfolding be_bytes
be_small zero v i = omega arith
be_small (suc w) v zero = mod-lt (v / 256 ^ w) (zero-lt-suc 255)
be_small (suc w) v (suc i) = be_small w v i

some : (w : ℕ) → 0 < 256 ^ w
some zero = lit< tt
some (suc w) = rw pow-succ' (mul-pos (zero-lt-suc 255) (some w))

-- the digits before a run of bytes, and the run's own number
more_is : (n : ℕ) (s : List ℕ) → be_more n s ≡ n * 256 ^ length s + be_more 0 s
unfolding be_more
more_is n [] = omega arith
more_is n (b ∷ s) =
    let P = 256 ^ length s in
    more_is (n * 256 + b) s
    ∙ ap (λ (x : ℕ). x + be_more 0 s) (add-mul (n * 256) b P ∙ ap (λ (x : ℕ). x + b * P) (mul_assoc n 256 P))
    ∙ add_assoc (n * (256 * P)) (b * P) (be_more 0 s)
    ∙ ap₂ (λ (x y : ℕ). n * x + y) (sym (pow-succ' 256 (length s))) (sym (more_is (0 + b) s ∙ rw zero-add))

more_lt : (s : List ℕ) → Bytes s → be_more 0 s < 256 ^ length s
unfolding be_more
more_lt [] h = lit< tt
more_lt (b ∷ s) h =
    let l : b < 256 = h 0 in
    rw (zero-add, more_is b s, pow-succ') (digits_lt l (more_lt s (λ i. h (suc i))))

-- bytes are the bytes of their number
again : (n : ℕ) (s : List ℕ) → Bytes s → be_bytes (length s) (be_more n s) ≡ s
unfolding be_more be_bytes
again n [] h = refl
again n (b ∷ s) h =
    let e : be_more (n * 256 + b) s / 256 ^ length s ≡ n * 256 + b = rw (more_is (n * 256 + b) s) (digits_div (n * 256 + b) (more_lt s (λ i. h (suc i)))) in
    (rw e (digits_mod n (h 0))) ◂ again (n * 256 + b) s (λ i. h (suc i))

pub bytes_of_lem : (s : List ℕ) → Bytes s → be_bytes (length s) (be_of s) ≡ s
unfolding be_of be_more
bytes_of_lem [] h = again 0 [] h
bytes_of_lem (b ∷ s) h = rw zero-add at (again 0 (b ∷ s) h)

-- and a number that fits is the number of its bytes
of_more : (n w v : ℕ) → be_more n (be_bytes w v) ≡ n * 256 ^ w + v % 256 ^ w
unfolding be_more be_bytes
of_more n zero v = omega arith
of_more n (suc w) v =
    let P = 256 ^ w in
    let d = v / P % 256 in
    of_more (n * 256 + d) w v
    ∙ ap (λ (x : ℕ). x + v % P) (add-mul (n * 256) d P ∙ ap (λ (x : ℕ). x + d * P) (mul_assoc n 256 P))
    ∙ add_assoc (n * (256 * P)) (d * P) (v % P)
    ∙ rw pow-succ' (ap (λ (x : ℕ). n * (256 * P) + x) (sym (mod-mul v (zero-lt-suc 255) (some w))))

pub of_bytes : (w v : ℕ) → v < 256 ^ w → be_of (be_bytes w v) ≡ v
unfolding be_of be_bytes
of_bytes zero v h = omega arith
of_bytes (suc w) v h =
    of_more (v / 256 ^ w % 256) w v
    ∙ sym (mod-mul v (zero-lt-suc 255) (some w))
    ∙ rw (← pow-succ' 256 w) (mod-eq_of_lt h)

pub be_lt : (s : List ℕ) → Bytes s → be_of s < 256 ^ length s
unfolding be_of
be_lt [] h = lit< tt
be_lt (b ∷ s) h = rw (more_is b s, pow-succ') (digits_lt (h 0) (more_lt s (λ i. h (suc i))))

-- exclusive or, byte by byte
xor_more : (n m : ℕ) (s t : List ℕ) → length s ≡ length t → Bytes s → Bytes t → bit_xor (be_more n s) (be_more m t) ≡ be_more (bit_xor n m) (added s t)
unfolding be_more added
xor_more n m [] [] e hs ht = refl
xor_more n m [] (c ∷ t) e hs ht = absurd (omega arith)
xor_more n m (b ∷ s) [] e hs ht = absurd (omega arith)
xor_more n m (b ∷ s) (c ∷ t) e hs ht =
    xor_more (n * 256 + b) (m * 256 + c) s t (omega arith) (λ i. hs (suc i)) (λ i. ht (suc i))
    ∙ ap (λ (x : ℕ). be_more x (added s t)) (xor_block 8 n m b c (hs 0) (ht 0))

pub be_xor : (s t : List ℕ) → length s ≡ length t → Bytes s → Bytes t → bit_xor (be_of s) (be_of t) ≡ be_of (added s t)
unfolding be_of added
be_xor [] [] e hs ht = refl
be_xor [] (c ∷ t) e hs ht = absurd (omega arith)
be_xor (b ∷ s) [] e hs ht = absurd (omega arith)
be_xor (b ∷ s) (c ∷ t) e hs ht = xor_more b c s t (omega arith) (λ i. hs (suc i)) (λ i. ht (suc i))
