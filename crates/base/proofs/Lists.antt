-- Laws of lists by their index, of bytes, and of exclusive or. Assumes nothing.
use mathlib.Core.Path.{◌≡◌, refl, sym, ap, ap₂, subst, ◌∙◌}
use mathlib.Core.List.{List, [], ◌∷◌, ◌++◌, foldl}
use Prim.Native.Nat.{ℕ, zero, suc, ◌+◌, ◌≤◌, ◌<◌}
use native.Mathlib.Nat.{add-zero, zero-add, add-suc, suc-add, le_of_suc-le-suc, not-suc-le-zero}
use native.Mathlib.Numerals.{add-one}
use native.Mathlib.Omega.{arith}
use lib.Bits.{bit_xor, xor_zero_r, xor_lt}
use lib.ListN.{length, get_or, take, drop, set, replicate, drop_of_length-le}
use lib.Seq.{ext_get_or, drop-cons, take-suc, length-take-le}
use Rattle.base.specs.Lists.{from, Bytes, added, imap, or_else, first_of, joined}
use Rattle.base.proofs.Xor.{xor_assoc}

infixr 5 ◌◂◌
-- two lists are equal by their elements, one after the other
pub ◌◂◌ : {A : Type 0} {x y : A} {xs ys : List A} → x ≡ y → xs ≡ ys → x ∷ xs ≡ y ∷ ys
◌◂◌ {A} p q = ap₂ {B = List A} (λ a b. a ∷ b) p q

pub from_length : {A : Type 0} (n i : ℕ) (f : ℕ → A) → length (from n i f) ≡ n
from_length zero i f = refl
from_length (suc n) i f = ap suc (from_length n (suc i) f)

pub from_at : {A : Type 0} (n i : ℕ) (f : ℕ → A) (z : A) (k : ℕ) → k < n → get_or (from n i f) k z ≡ f (i + k)
from_at zero i f z k h = absurd (not-suc-le-zero h)
from_at (suc n) i f z zero h = ap f (sym (add-zero i))
from_at (suc n) i f z (suc k) h = from_at n (suc i) f z k (le_of_suc-le-suc h) ∙ ap f (suc-add i k ∙ sym (add-suc i k))

-- any default does
pub from_get : {A : Type 0} (n : ℕ) (f : ℕ → A) (z : A) (k : ℕ) → k < n → get_or (from n 0 f) k z ≡ f k
from_get n f z k h = from_at n 0 f z k h ∙ ap f (zero-add k)

pub from_zero_at : (n : ℕ) (f : ℕ → ℕ) (k : ℕ) → k < n → get_or (from n 0 f) k 0 ≡ f k
from_zero_at n f k h = from_get n f 0 k h

-- of bytes
pub from_lt : (n i : ℕ) (f : ℕ → ℕ) → ((k : ℕ) → f k < 256) → Bytes (from n i f)
from_lt zero i f h k = omega arith
from_lt (suc n) i f h zero = h i
from_lt (suc n) i f h (suc k) = from_lt n (suc i) f h k

pub from_same : (n i : ℕ) (f g : ℕ → ℕ) → ((k : ℕ) → k < i + n → f k ≡ g k) → from n i f ≡ from n i g
from_same zero i f g h = refl
from_same (suc n) i f g h = h i (omega arith) ◂ from_same n (suc i) f g (λ k q. h k (omega arith))

-- a turn of a loop that folds s from the front, whatever is folded
pub fold_more : {S : Type 0} (f : S → ℕ → S) (s : List ℕ) (i : ℕ) (m n : S) → i < length s → n ≡ f m (get_or s i 0)
    → foldl f m (drop i s) ≡ foldl f n (drop (i + 1) s)
fold_more f s i m n h e = rw (add-one i, drop-cons s i 0 h, e)

-- exclusive or of lists
pub added_none : (x : List ℕ) → added x [] ≡ x
unfolding added
added_none [] = refl
added_none (a ∷ x) = refl

pub added_length : (x p : List ℕ) → length (added x p) ≡ length x
unfolding added
added_length [] p = refl
added_length (a ∷ x) [] = refl
added_length (a ∷ x) (b ∷ p) = ap suc (added_length x p)

pub added_at_lem : (x p : List ℕ) (i : ℕ) → i < length x → get_or (added x p) i 0 ≡ bit_xor (get_or x i 0) (get_or p i 0)
unfolding added
added_at_lem [] p i h = absurd (not-suc-le-zero h)
added_at_lem (a ∷ x) [] i h = sym (xor_zero_r (get_or (a ∷ x) i 0))
added_at_lem (a ∷ x) (b ∷ p) zero h = refl
added_at_lem (a ∷ x) (b ∷ p) (suc i) h = added_at_lem x p i (le_of_suc-le-suc h)

pub added_lt : (x p : List ℕ) → Bytes x → Bytes p → Bytes (added x p)
unfolding added
added_lt [] p hx hp i = omega arith
added_lt (a ∷ x) [] hx hp i = hx i
added_lt (a ∷ x) (b ∷ p) hx hp zero = xor_lt 8 a b (hx 0) (hp 0)
added_lt (a ∷ x) (b ∷ p) hx hp (suc i) = added_lt x p (λ k. hx (suc k)) (λ k. hp (suc k)) i

-- one byte more
pub added_one : (x p : List ℕ) (b : ℕ) → set (added x p) (length p) (bit_xor (get_or (added x p) (length p) 0) b) ≡ added x (p ++ b ∷ [])
unfolding added
added_one [] p b = refl
added_one (a ∷ x) [] b = ap {B = List ℕ} (λ l. bit_xor a b ∷ l) (sym (added_none x))
added_one (a ∷ x) (d ∷ p) b = ap {B = List ℕ} (λ l. bit_xor a d ∷ l) (added_one x p b)

-- the first i bytes of k are added to x, and the next is
pub added_more : (x k : List ℕ) (i : ℕ) {y : List ℕ} → i < length k → y ≡ added x (take i k)
    → set y i (bit_xor (get_or y i 0) (get_or k i 0)) ≡ added x (take (i + 1) k)
added_more x k i h e =
    let q : length (take i k) ≡ i = length-take-le i k (omega arith) in
    let p = rw q at (added_one x (take i k) (get_or k i 0)) in
    rw (e, add-one, take-suc k i 0 h) p

pub added_zeros : (x : List ℕ) (n : ℕ) → added x (replicate n 0) ≡ x
unfolding added
added_zeros [] n = refl
added_zeros (a ∷ x) zero = refl
added_zeros (a ∷ x) (suc n) = xor_zero_r a ◂ added_zeros x n

pub added_assoc : (x p k : List ℕ) → length k ≤ length p → added (added x p) k ≡ added x (added p k)
unfolding added
added_assoc [] p k h = refl
added_assoc (a ∷ x) [] [] h = refl
added_assoc (a ∷ x) [] (b ∷ k) h = absurd (not-suc-le-zero h)
added_assoc (a ∷ x) (d ∷ p) [] h = refl
added_assoc (a ∷ x) (d ∷ p) (b ∷ k) h = xor_assoc a d b ◂ added_assoc x p k (le_of_suc-le-suc h)

-- by index, as code that writes all n of them out does it
pub added_by_index : (n : ℕ) (x p : List ℕ) → length x ≡ n → from n 0 (λ i. bit_xor (get_or x i 0) (get_or p i 0)) ≡ added x p
added_by_index n x p h =
    ext_get_or 0 _ _ (from_length n 0 _ ∙ sym (added_length x p ∙ h))
    (λ i q.
    let l : i < n = subst (λ (m : ℕ). i < m) (from_length n 0 (λ i. bit_xor (get_or x i 0) (get_or p i 0))) q in
    let r : i < length x = omega arith in
    from_zero_at n (λ i. bit_xor (get_or x i 0) (get_or p i 0)) i l ∙ sym (added_at_lem x p i r))

-- each element by its place
pub imap_length : (f : ℕ → ℕ → ℕ) (i : ℕ) (s : List ℕ) → length (imap f i s) ≡ length s
imap_length f i [] = refl
imap_length f i (x ∷ s) = ap suc (imap_length f (suc i) s)

imap_from : (f : ℕ → ℕ → ℕ) (i : ℕ) (s : List ℕ) (k : ℕ) → k < length s → get_or (imap f i s) k 0 ≡ f (i + k) (get_or s k 0)
imap_from f i [] k h = absurd (not-suc-le-zero h)
imap_from f i (x ∷ s) zero h = ap (λ (n : ℕ). f n x) (sym (add-zero i))
imap_from f i (x ∷ s) (suc k) h = imap_from f (suc i) s k (le_of_suc-le-suc h) ∙ ap (λ (n : ℕ). f n (get_or s k 0)) (suc-add i k ∙ sym (add-suc i k))

pub imap_at : (f : ℕ → ℕ → ℕ) (s : List ℕ) (k : ℕ) → k < length s → get_or (imap f 0 s) k 0 ≡ f k (get_or s k 0)
imap_at f s k h = imap_from f 0 s k h ∙ ap (λ (n : ℕ). f n (get_or s k 0)) (zero-add k)

pub imap_same : (f g : ℕ → ℕ → ℕ) (i : ℕ) (s : List ℕ) → ((k x : ℕ) → f k x ≡ g k x) → imap f i s ≡ imap g i s
imap_same f g i [] e = refl
imap_same f g i (x ∷ s) e = e i x ◂ imap_same f g (suc i) s e

-- nothing is done to any
pub imap_id : (f : ℕ → ℕ → ℕ) (i : ℕ) (s : List ℕ) → ((k x : ℕ) → f k x ≡ x) → imap f i s ≡ s
imap_id f i [] e = refl
imap_id f i (x ∷ s) e = e i x ◂ imap_id f (suc i) s e

pub imap_twice : (f g : ℕ → ℕ → ℕ) (i : ℕ) (s : List ℕ) → imap f i (imap g i s) ≡ imap (λ k x. f k (g k x)) i s
imap_twice f g i [] = refl
imap_twice f g i (x ∷ s) = refl ◂ imap_twice f g (suc i) s

-- a part of what is made of each element by its place
pub imap_drop : (f : ℕ → ℕ → ℕ) (i n : ℕ) (s : List ℕ) → drop n (imap f i s) ≡ imap f (i + n) (drop n s)
imap_drop f i zero s = rw add-zero
imap_drop f i (suc n) [] = refl
imap_drop f i (suc n) (x ∷ s) = imap_drop f (suc i) n s ∙ ap (λ (k : ℕ). imap f k (drop n s)) (suc-add i n ∙ sym (add-suc i n))

pub imap_take : (f : ℕ → ℕ → ℕ) (i n : ℕ) (s : List ℕ) → take n (imap f i s) ≡ imap f i (take n s)
imap_take f i zero s = refl
imap_take f i (suc n) [] = refl
imap_take f i (suc n) (x ∷ s) = refl ◂ imap_take f (suc i) n s

-- the first refusal of a list, from the front: those before i gave none
pub record Passed {A : Type 0} (f : A → ℕ) (xs : List A) (i : ℕ) : Type 0 where
  pub within : i ≤ length xs
  pub rest : first_of f xs ≡ first_of f (drop i xs)

pub passed_none : {A : Type 0} (f : A → ℕ) (xs : List A) → Passed f xs 0
passed_none f xs = record { within = omega arith; rest = refl }

pub passed_more : {A : Type 0} (f : A → ℕ) (xs : List A) (i : ℕ) (z : A) → i < length xs → f (get_or xs i z) ≡ 0 → Passed f xs i → Passed f xs (i + 1)
unfolding first_of
passed_more f xs i z h e p =
    record { within = omega arith; rest = p.rest ∙ ap (first_of f) (drop-cons xs i z h) ∙ ap (λ (n : ℕ). or_else n (first_of f (drop (suc i) xs))) e ∙ ap (λ (n : ℕ). first_of f (drop n xs)) (sym (add-one i)) }

pub passed_stop : {A : Type 0} (f : A → ℕ) (xs : List A) (i : ℕ) (z : A) (n : ℕ) → i < length xs → f (get_or xs i z) ≡ n → (n ≡ 0 → ⊥) → Passed f xs i → n ≡ first_of f xs
unfolding first_of
passed_stop f xs i z zero h e k p = absurd (k refl)
passed_stop f xs i z (suc n) h e k p =
    sym (p.rest ∙ ap (first_of f) (drop-cons xs i z h) ∙ ap (λ (m : ℕ). or_else m (first_of f (drop (suc i) xs))) e)

pub passed_all : {A : Type 0} (f : A → ℕ) (xs : List A) (i : ℕ) → length xs ≤ i → Passed f xs i → 0 ≡ first_of f xs
unfolding first_of
passed_all f xs i h p = sym (p.rest ∙ ap (first_of f) (drop_of_length-le xs h))

-- what the first i give, and what the rest gives
pub joined_more : {A : Type 0} (f : A → List ℕ) (xs : List A) (i : ℕ) (z : A) → i < length xs → joined f (drop i xs) ≡ f (get_or xs i z) ++ joined f (drop (i + 1) xs)
unfolding joined
joined_more f xs i z h = ap (joined f) (drop-cons xs i z h) ∙ ap (λ (n : ℕ). f (get_or xs i z) ++ joined f (drop n xs)) (sym (add-one i))

pub joined_all : {A : Type 0} (f : A → List ℕ) (xs : List A) (i : ℕ) → length xs ≤ i → joined f (drop i xs) ≡ []
unfolding joined
joined_all f xs i h = ap (joined f) (drop_of_length-le xs h)

-- a list by its elements
pub listed : (n : ℕ) (w : List ℕ) → length w ≡ n → from n 0 (λ i. get_or w i 0) ≡ w
listed n w h =
    ext_get_or 0 _ _ (from_length n 0 _ ∙ sym h)
    (λ i q. from_zero_at n (λ i. get_or w i 0) i (subst (λ (m : ℕ). i < m) (from_length n 0 (λ i. get_or w i 0)) q))

-- no refusal of two is none of either
pub or_zero : (a b : ℕ) → or_else a b ≡ 0 → (a ≡ 0) × (b ≡ 0)
or_zero zero b e = (refl, e)
or_zero (suc a) b e = absurd (omega arith)
