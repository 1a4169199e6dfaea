-- What the proofs share: how far the loops go, and what the lists hold after i turns. Assumes nothing.
use Prim.Native.Nat.{ℕ, zero, suc, ◌+◌, ◌*◌, ◌/◌, ◌%◌, ◌≤◌, ◌<◌}
use native.Mathlib.Numerals.{add-one}
use native.Mathlib.Omega.{arith}
use mathlib.Core.Bool.{Bool, true, false}
use mathlib.Core.Path.{◌≡◌, refl, sym, ap, ◌∙◌}
use mathlib.Core.List.{List, [], ◌∷◌, ◌++◌, append_assoc, append-nil}
use lib.Dec.{ltb, eqb}
use lib.ListN.{length, get_or, take, drop, set, length-append, length-drop}
use lib.Seq.{take-suc, take_all, drop-cons, set_at, sets, sets-eq, length-take-le}
use borrow.Author.Tests.{lt-ltb, le-ltb, ne_eqb, ltb-false}
use Rattle.base.specs.Pick.{pick}
use Rattle.base.specs.Numbers.{item_long, output_short, outside, path_most}
use Rattle.base.specs.Lists.{or_else, first_of, joined}
use Rattle.base.specs.Answers.{Writing, bytes, refused, answer_of, out_of}
use Rattle.base.specs.declared.Written.{Written}
use Rattle.base.specs.declared.Written.TheVariants.{Bytes as Done, Refused as NotDone}
use Rattle.base.proofs.Lists.{listed}
use Rattle.wire.specs.Lay.{put}
use Rattle.wire.proofs.Laws.Lay.{put_fits, put_front, two_puts}
use Rattle.fields.specs.declared.path.RelayPath.{RelayPath}
use Rattle.heartbeats.specs.Heartbeat.{entry_at, entries, paths_of, length_refusal, beat_refusal, entry_refusal, beat_of, path_after, entry_read, beat_wire, no_path}
use Rattle.fields.specs.Path.{bad_entry, six_of}
use Rattle.heartbeats.specs.inner.Steps.{count_of, beat_verdict, places_of}
use Rattle.heartbeats.specs.declared.heartbeat.HeartbeatRead.TheVariants.{Heartbeat, Refused as NoBeat}
use Rattle.heartbeats.specs.declared.heartbeat.PathRead.TheVariants.{Entry, Refused as NoEntry}
use Rattle.fields.proofs.Laws.Path.{six_length, joined_length}

-- ---- reading

-- 19 and 20 are asked before 21 and 45
pub or_first : (b n : ℕ) → (b ≡ 0 → ⊥) → or_else b n ≡ b
or_first zero n h = absurd (h refl)
or_first (suc b) n h = refl

module _ (v : List ℕ) (bad : ℕ) (e : bad ≡ length_refusal (length v)) where
  pub check_long : (places : ℕ) → (bad ≡ 0 → ⊥) → NoBeat bad ≡ beat_of v places
  unfolding beat_of beat_refusal
  check_long places h = rw (← e, or_first bad (pick (ltb places (length v / 6)) output_short 0) h, ne_eqb bad 0 h)

  pub check_short : (places : ℕ) → bad ≡ 0 → places < length v / 6 → NoBeat output_short ≡ beat_of v places
  unfolding beat_of beat_refusal
  check_short places z l = rw (← e, z, lt-ltb places (length v / 6) l)

  pub check_takes : (places : ℕ) → bad ≡ 0 → length v / 6 ≤ places → Heartbeat (record { entries = length v / 6 }) ≡ beat_of v places
  unfolding beat_of beat_refusal
  check_takes places z l = rw (← e, z, le-ltb places (length v / 6) l)

  pub entry_long : (i : ℕ) → (bad ≡ 0 → ⊥) → NoEntry bad ≡ entry_read v i
  unfolding entry_read entry_refusal
  entry_long i h = rw (← e, or_first bad (pick (ltb i (length v / 6)) 0 outside) h, ne_eqb bad 0 h)

  pub entry_outside : (i : ℕ) → bad ≡ 0 → length v / 6 ≤ i → NoEntry outside ≡ entry_read v i
  unfolding entry_read entry_refusal
  entry_outside i z l = rw (← e, z, le-ltb i (length v / 6) l)

  pub entry_there : (i : ℕ) → bad ≡ 0 → i < length v / 6 → Entry (entry_at v i) ≡ entry_read v i
  unfolding entry_read entry_refusal
  entry_there i z l = rw (← e, z, lt-ltb i (length v / 6) l)

pub entries_length : (v : List ℕ) (n : ℕ) → length (entries v n) ≡ n
unfolding entries
entries_length v zero = refl
entries_length v (suc n) = length-append (entries v n) (entry_at v n ∷ []) ∙ add-one (length (entries v n)) ∙ ap suc (entries_length v n)

-- the list after n turns
abbrev pub filled : List ℕ → List RelayPath → ℕ → List RelayPath
filled v ys n = entries v n ++ drop n ys

pub filled_none : (v : List ℕ) (ys : List RelayPath) → ys ≡ filled v ys 0
unfolding entries
filled_none v ys = refl

pub filled_more : (v : List ℕ) (ys : List RelayPath) (n : ℕ) → n < length ys → set (filled v ys n) n (entry_at v n) ≡ filled v ys (suc n)
unfolding entries
filled_more v ys n h =
    ap (λ (l : List RelayPath). set (entries v n ++ l) n (entry_at v n)) (drop-cons ys n no_path h)
    ∙ set_at (entries v n) (get_or ys n no_path) (drop (suc n) ys) (entry_at v n) n (entries_length v n)
    ∙ sym (append_assoc (entries v n) (entry_at v n ∷ []) (drop (suc n) ys))

pub filled_length : (v : List ℕ) (ys : List RelayPath) (n : ℕ) → n ≤ length ys → length (filled v ys n) ≡ length ys
filled_length v ys n h = let e = entries_length v n in simp (length-append, length-drop) (omega arith)

-- what is read lies within the value, and within the list
pub record Fits (len most n : ℕ) : Type 0 where
  pub bytes : n * 6 ≤ len
  pub room : n ≤ most

module _ (v : List ℕ) (ys : List RelayPath) where
  abbrev told : Bool → Bool → Bool → ℕ
  told s t u = or_else (pick s 19 (pick t 20 0)) (pick u 21 0)

  abbrev turns : Bool → Bool → Bool → ℕ
  turns s t u = count_of (pick (eqb (told s t u) 0) (Heartbeat (record { entries = length v / 6 })) (NoBeat (told s t u)))

  pub count_fits : Fits (length v) (length ys) (count_of (beat_of v (length ys)))
  unfolding beat_of beat_refusal
  count_fits = by (ltb 255 (length v)) (ltb 0 (length v % 6)) (ltb (length ys) (length v / 6)) refl
    where
      by : (s t u : Bool) → ltb (length ys) (length v / 6) ≡ u → Fits (length v) (length ys) (turns s t u)
      by true t u e = record { bytes = omega arith; room = omega arith }
      by false true u e = record { bytes = omega arith; room = omega arith }
      by false false true e = record { bytes = omega arith; room = omega arith }
      by false false false e = let h : length v / 6 ≤ length ys = ltb-false _ _ e in record { bytes = omega arith; room = h }

  pub filled_all : filled v ys (count_of (beat_of v (length ys))) ≡ path_after v ys
  unfolding beat_of beat_refusal path_after paths_of entries
  filled_all = by (ltb 255 (length v)) (ltb 0 (length v % 6)) (ltb (length ys) (length v / 6))
    where
      by : (s t u : Bool) → filled v ys (turns s t u) ≡ pick (eqb (told s t u) 0) (entries v (length v / 6) ++ drop (length v / 6) ys) ys
      by true t u = refl
      by false true u = refl
      by false false true = refl
      by false false false = refl

-- ---- writing

-- the first refusal of one element more
or_assoc : (a b c : ℕ) → or_else a (or_else b c) ≡ or_else (or_else a b) c
or_assoc zero b c = refl
or_assoc (suc a) b c = refl

or_none : (a : ℕ) → or_else a 0 ≡ a
or_none zero = refl
or_none (suc a) = refl

pub first_snoc : {A : Type 0} (f : A → ℕ) (xs : List A) (x : A) → first_of f (xs ++ (x ∷ [])) ≡ or_else (first_of f xs) (f x)
unfolding first_of
first_snoc f [] x = or_none (f x)
first_snoc f (y ∷ xs) x = ap (or_else (f y)) (first_snoc f xs x) ∙ or_assoc (f y) (first_of f xs) (f x)

pub first_more : (ps : List RelayPath) (i : ℕ) → i < length ps → or_else (first_of bad_entry (take i ps)) (bad_entry (get_or ps i no_path)) ≡ first_of bad_entry (take (suc i) ps)
first_more ps i h = sym (ap (first_of bad_entry) (take-suc ps i no_path h) ∙ first_snoc bad_entry (take i ps) (get_or ps i no_path))

pub joined_snoc : {A : Type 0} (f : A → List ℕ) (xs : List A) (x : A) → joined f (xs ++ (x ∷ [])) ≡ joined f xs ++ f x
unfolding joined
joined_snoc f [] x = append-nil (f x)
joined_snoc f (y ∷ xs) x = ap (λ (l : List ℕ). f y ++ l) (joined_snoc f xs x) ∙ sym (append_assoc (f y) (joined f xs) (f x))

-- six stores, one behind the other, put the six bytes
pub six_put : (o w : List ℕ) (k : ℕ) → length w ≡ 6 → k + 6 ≤ length o
    → set (set (set (set (set (set o k (get_or w 0 0)) (k + 1) (get_or w 1 0)) (k + 2) (get_or w 2 0)) (k + 3) (get_or w 3 0)) (k + 4) (get_or w 4 0)) (k + 5) (get_or w 5 0) ≡ put o k w
six_put o w k h l =
    let e1 : k + 1 ≡ suc k = omega arith in
    let e2 : k + 2 ≡ suc (suc k) = omega arith in
    let e3 : k + 3 ≡ suc (suc (suc k)) = omega arith in
    let e4 : k + 4 ≡ suc (suc (suc (suc k))) = omega arith in
    let e5 : k + 5 ≡ suc (suc (suc (suc (suc k)))) = omega arith in
    let f : k + length w ≤ length o = omega arith in
    rw (e1, e2, e3, e4, e5) (ap (sets o k) (listed 6 w h) ∙ sets-eq w o k f ∙ sym (put_fits o k w f))

-- the bytes after i turns
abbrev pub packed : List RelayPath → List ℕ → ℕ → List ℕ
packed ps o i = put o 0 (joined six_of (take i ps))

put_empty : (o : List ℕ) → put o 0 [] ≡ o
put_empty o = put_fits o 0 [] (omega arith)

pub packed_none : (ps : List RelayPath) (o : List ℕ) → packed ps o 0 ≡ o
unfolding joined
packed_none ps o = put_empty o

pub packed_more : (ps : List RelayPath) (o : List ℕ) (i : ℕ) → i < length ps → i * 6 + 6 ≤ length o → put (packed ps o i) (i * 6) (six_of (get_or ps i no_path)) ≡ packed ps o (suc i)
packed_more ps o i h l =
    let w = joined six_of (take i ps) in
    let v = six_of (get_or ps i no_path) in
    let q : i ≤ length ps = omega arith in
    let e : length w ≡ i * 6 = joined_length (take i ps) ∙ ap (λ (n : ℕ). n * 6) (length-take-le i ps q) in
    let s : length v ≡ 6 = six_length (get_or ps i no_path) in
    let n : length (w ++ v) ≡ length w + length v = length-append w v in
    two_puts o w v (i * 6) e (omega arith) ∙ ap (put o 0) (sym (ap (joined six_of) (take-suc ps i no_path h) ∙ joined_snoc six_of (take i ps) (get_or ps i no_path)))

-- the answer in numbers is the writer's answer, and as many entries as it lets through leave what a writer leaves
module _ (ps : List RelayPath) (o : List ℕ) where
  abbrev bad : ℕ
  bad = first_of bad_entry ps

  abbrev w : List ℕ
  w = joined six_of ps

  abbrev verdicts : Bool → Bool → Bool → Written
  verdicts s t u = pick s (pick t (NotDone item_long) (pick u (NotDone output_short) (Done (length ps * 6)))) (NotDone bad)

  abbrev wires : Bool → Bool → Writing
  wires s t = pick s (pick t (refused item_long) (bytes w)) (refused bad)

  pub verdict_is : beat_verdict bad (length ps) (length o) ≡ answer_of (beat_wire ps) o
  unfolding beat_verdict beat_wire answer_of
  verdict_is = by (eqb bad 0) (ltb path_most (length ps))
    where
      by : (s t : Bool) → verdicts s t (ltb (length o) (length ps * 6)) ≡ answer_of (wires s t) o
      by false t = refl
      by true true = refl
      by true false = ap (λ (n : ℕ). pick (ltb (length o) n) (NotDone output_short) (Done n)) (sym (joined_length ps))

  pub packed_fits : Fits (length o) (length ps) (places_of (beat_verdict bad (length ps) (length o)))
  unfolding beat_verdict
  packed_fits = by (eqb bad 0) (ltb path_most (length ps)) (ltb (length o) (length ps * 6)) refl
    where
      by : (s t u : Bool) → ltb (length o) (length ps * 6) ≡ u → Fits (length o) (length ps) (places_of (verdicts s t u))
      by false t u e = record { bytes = omega arith; room = omega arith }
      by true true u e = record { bytes = omega arith; room = omega arith }
      by true false true e = record { bytes = omega arith; room = omega arith }
      by true false false e = let h : length ps * 6 ≤ length o = ltb-false _ _ e in record { bytes = omega arith; room = omega arith }

  pub packed_all : packed ps o (places_of (beat_verdict bad (length ps) (length o))) ≡ out_of (beat_wire ps) o
  unfolding beat_verdict beat_wire out_of
  packed_all = by (eqb bad 0) (ltb path_most (length ps)) (ltb (length o) (length ps * 6)) refl
    where
      by : (s t u : Bool) → ltb (length o) (length ps * 6) ≡ u → packed ps o (places_of (verdicts s t u)) ≡ out_of (wires s t) o
      by false t u e = packed_none ps o
      by true true u e = packed_none ps o
      by true false true e = packed_none ps o ∙ rw (joined_length ps, e)
      by true false false e =
          let h : length ps * 6 ≤ length o = ltb-false _ _ e in
          let n : length ps * 6 / 6 ≡ length ps = omega arith in
          let j = joined_length ps in
          ap (packed ps o) n ∙ ap (λ (l : List RelayPath). put o 0 (joined six_of l)) (take_all (length ps) ps (omega arith)) ∙ put_front o w (omega arith)
