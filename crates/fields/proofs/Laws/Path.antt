-- Laws of a path entry. Assumes nothing.
use Prim.Native.Nat.{ℕ, zero, suc, ◌+◌, ◌*◌, ◌/◌, ◌%◌, ◌≤◌, ◌<◌}
use native.Mathlib.Omega.{arith}
use mathlib.Core.Bool.{Bool, true, false, ◌&&◌, and-eq-true_iff, and-true, and_assoc, false≢true}
use mathlib.Core.Path.{◌≡◌, refl, sym, ap, ap₂, ◌∙◌}
use mathlib.Core.List.{List, [], ◌∷◌, ◌++◌}
use lib.Dec.{ltb, eqb}
use lib.ListN.{length, get_or, drop, take, length-append, length-drop}
use lib.Seq.{drop-cons}
use borrow.Author.Tests.{ltb-true, ltb-false, eq-eqb, ne_eqb, eqb-true}
use denote.Ref.{Bor}
use Rattle.std.specs.Prelude.{Option, Some, None, IfSome, IsSomeAnd}
use Rattle.std.specs.Bool.{MatchBool, IsTrue}
use Rattle.std.specs.Fn.{Mut, Called}
use Rattle.std.specs.List.{IsSubsliceAt}
use Rattle.std.specs.Option.{option_map, option_len}
use Rattle.std.specs.Iterator.Runs.{Run, AllItems, AllItemsGive, AnyItem, AnyItemGives, CallKeepsClosure, ItemsMapToExactChunks}
use Rattle.std.proofs.lemmas.List.{length-take, take-append-drop}
use Rattle.std.proofs.lemmas.Option.{IfSome_then}
use Rattle.base.specs.Pick.{pick}
use Rattle.base.specs.Lists.{Bytes, imap, joined}
use Rattle.base.proofs.Lists.{◌◂◌, listed}
use Rattle.base.specs.Answers.{bytes, bytes_or}
use Rattle.wire.specs.Number.{be_bytes}
use Rattle.wire.proofs.Laws.Number.{be_length, of_bytes, bytes_of_lem}
use Rattle.fields.specs.Signal.{even_byte, even_at, snr_of, rssi_byte, snr_byte}
use Rattle.fields.specs.Meta.{after_rssi}
use Rattle.fields.specs.Path.{path_of, even_entry, path_wire, entry_byte, is_even, even_from, all_even, six_of}
use Rattle.fields.specs.declared.signal.SignalByte.{SignalByte}
use Rattle.fields.specs.declared.signal.SignalByte.TheVariants.{Byte, Refused as NoByte}
use Rattle.fields.specs.declared.path.RelayPath.{RelayPath}
use Rattle.fields.proofs.Laws.Bytes.{none, ◌▸◌, small}
use Rattle.fields.proofs.Laws.Signal.{rssi_back, rssi_again, rssi_byte_lt, snr_back, snr_again, snr_byte_lt, even_same, even_other, even_read_lem, even_list}
use Rattle.fields.proofs.Laws.Meta.{signals, same_bytes}

-- what is written is read back, without odd bits
pub path_back : (p : RelayPath) (w : List ℕ) → p.relay_id < 4294967296 → path_wire p ≡ bytes w → (length w ≡ 6) × (Bytes w) × (path_of w ≡ even_entry p)
unfolding path_wire be_bytes
path_back p w h e =
    let g = signals (be_bytes 4 p.relay_id) [] _ _ w e in
    let i = of_bytes 4 p.relay_id h in
    let r = rssi_back p.rssi g.rssi g.rssi_is in
    let s = snr_back p.snr g.snr g.snr_is in
    let lr = rssi_byte_lt p.rssi g.rssi g.rssi_is in
    let ls = snr_byte_lt p.snr g.snr g.snr_is in
    rw g.bytes_are (refl, small ((omega arith) ▸ (omega arith) ▸ (omega arith) ▸ (omega arith) ▸ lr ▸ (omega arith) ▸ none), rw (i, r, s))

-- and what is read is written as the same bytes, the odd bits cleared
path_spelt : (b : List ℕ) → Bytes b → path_wire (path_of b) ≡ bytes (get_or b 0 0 ∷ get_or b 1 0 ∷ get_or b 2 0 ∷ get_or b 3 0 ∷ get_or b 4 0 ∷ even_byte (get_or b 5 0) ∷ [])
unfolding path_wire
path_spelt b h =
    let i = bytes_of_lem (get_or b 0 0 ∷ get_or b 1 0 ∷ get_or b 2 0 ∷ get_or b 3 0 ∷ []) (small (h 0 ▸ h 1 ▸ h 2 ▸ h 3 ▸ none)) in
    simp (i, rssi_again (get_or b 4 0) (h 4), snr_again (get_or b 5 0) (h 5))

module _ (b : List ℕ) (l : length b ≡ 6) where
  pub path_again : Bytes b → path_wire (path_of b) ≡ bytes (even_at b 5)
  path_again h = path_spelt b h ∙ ap (λ (x : List ℕ). bytes (even_at x 5)) (listed 6 b l)

  -- so as the same bytes exactly if they were 0
  pub path_same : Bytes b → ((path_of b).odd ≡ 0 → path_wire (path_of b) ≡ bytes b) × (path_wire (path_of b) ≡ bytes b → (path_of b).odd ≡ 0)
  path_same h =
      let a = path_again h in
      let e = even_list b 5 (omega arith) in (λ z. a ∙ ap bytes (e.0 z), λ q. e.1 (same_bytes (even_at b 5) b (sym a ∙ q)))

  -- and all else is read whatever they are
  pub path_even : path_of (even_at b 5) ≡ even_entry (path_of b)
  path_even =
      let o = even_other b 5 in
      rw (o 0 (λ e. omega arith), o 1 (λ e. omega arith), o 2 (λ e. omega arith), o 3 (λ e. omega arith), o 4 (λ e. omega arith), even_read_lem b 5 (omega arith)) refl

-- six bytes, whatever the entry
signals_length : (a : List ℕ) → length a ≡ 4 → (s r : SignalByte) → length (bytes_or 6 (after_rssi a [] s r)) ≡ 6
signals_length a h s (NoByte n) = refl
signals_length a h (NoByte n) (Byte r) = refl
signals_length a h (Byte s) (Byte r) = length-append a (r ∷ s ∷ []) ∙ omega arith

pub six_length : (p : RelayPath) → length (six_of p) ≡ 6
unfolding six_of path_wire
six_length p = signals_length (be_bytes 4 p.relay_id) (be_length 4 p.relay_id) (snr_byte p.snr) (rssi_byte p.rssi)

pub joined_length : (ps : List RelayPath) → length (joined six_of ps) ≡ length ps * 6
unfolding joined
joined_length [] = refl
joined_length (p ∷ ps) = let e = joined_length ps in let s = six_length p in length-append (six_of p) (joined six_of ps) ∙ omega arith

-- ---- the odd bits

even_cons : (i b : ℕ) (v : List ℕ) → even_from i (b ∷ v) ≡ (is_even i b && even_from (suc i) v)
unfolding even_from
even_cons i b v = refl

-- from place i of v on: a byte, which is the sixth of an entry or not; an entry; and what is less than an entry
module _ (v : List ℕ) (i j : ℕ) (h : i < length v) (n : suc i ≡ j) where
  even_byte_lem : (t : Bool) → eqb (i % 6) 5 ≡ t → even_from i (drop i v) ≡ (pick t (eqb (snr_of (get_or v i 0)).odd 0) true && even_from j (drop j v))
  even_byte_lem t e =
      ap (even_from i) (drop-cons v i 0 h) ∙ even_cons i (get_or v i 0) (drop (suc i) v)
      ∙ ap₂ (λ (u : Bool) (k : ℕ). pick u (eqb (snr_of (get_or v i 0)).odd 0) true && even_from k (drop k v)) e n

  even_next : (i % 6 ≡ 5 → ⊥) → even_from i (drop i v) ≡ even_from j (drop j v)
  even_next e = even_byte_lem false (ne_eqb (i % 6) 5 e)

module _ (v : List ℕ) (i : ℕ) (h : i % 6 ≡ 0) (l : i + 6 ≤ length v) where
  entry_by : (t : Bool) → eqb (snr_of (get_or v (i + 5) 0)).odd 0 ≡ t → even_from i (drop i v) ≡ (t && even_from (i + 6) (drop (i + 6) v))
  entry_by t e =
      even_next v i (i + 1) (omega arith) (omega arith) (λ z. omega arith)
      ∙ even_next v (i + 1) (i + 2) (omega arith) (omega arith) (λ z. omega arith)
      ∙ even_next v (i + 2) (i + 3) (omega arith) (omega arith) (λ z. omega arith)
      ∙ even_next v (i + 3) (i + 4) (omega arith) (omega arith) (λ z. omega arith)
      ∙ even_next v (i + 4) (i + 5) (omega arith) (omega arith) (λ z. omega arith)
      ∙ even_byte_lem v (i + 5) (i + 6) (omega arith) (omega arith) true (eq-eqb ((i + 5) % 6) 5 (omega arith))
      ∙ ap (λ (u : Bool). u && even_from (i + 6) (drop (i + 6) v)) e

  pub entry_even : (snr_of (get_or v (i + 5) 0)).odd ≡ 0 → even_from i (drop i v) ≡ even_from (i + 6) (drop (i + 6) v)
  entry_even e = entry_by true (eq-eqb _ 0 e)

  pub entry_odd_lem : ((snr_of (get_or v (i + 5) 0)).odd ≡ 0 → ⊥) → even_from i (drop i v) ≡ false
  entry_odd_lem e = entry_by false (ne_eqb _ 0 e)

few_even : (i : ℕ) (v : List ℕ) → i % 6 + length v < 6 → even_from i v ≡ true
unfolding even_from
few_even i [] h = refl
few_even i (b ∷ v) h =
    let e : i % 6 ≡ 5 → ⊥ = λ z. omega arith in
    simp (ne_eqb (i % 6) 5 e) (few_even (suc i) v (omega arith))

pub even_end : (v : List ℕ) (i : ℕ) → i % 6 ≡ 0 → length v < i + 6 → even_from i (drop i v) ≡ true
even_end v i h l = let n = length-drop i v in few_even i (drop i v) (omega arith)

whole : (k : ℕ) → k * 6 % 6 ≡ 0
whole k = omega arith

six_more : (k : ℕ) → k * 6 + 6 ≡ suc k * 6
six_more k = omega arith

-- that is so exactly if those of each entry are
module _ (v : List ℕ) where
  abbrev pub Even : Type 0
  Even = (k : ℕ) → k * 6 + 6 ≤ length v → (snr_of (get_or v (k * 6 + 5) 0)).odd ≡ 0

  reached : all_even v ≡ true → (k : ℕ) → k * 6 ≤ length v → even_from (k * 6) (drop (k * 6) v) ≡ true
  reached e zero l = e
  reached e (suc k) l = by (eqb (snr_of (get_or v (k * 6 + 5) 0)).odd 0) refl (reached e k (omega arith))
    where
      by : (t : Bool) → eqb (snr_of (get_or v (k * 6 + 5) 0)).odd 0 ≡ t → even_from (k * 6) (drop (k * 6) v) ≡ true → even_from (suc k * 6) (drop (suc k * 6) v) ≡ true
      by true p q = rw (← six_more k) (sym (entry_by v (k * 6) (whole k) (omega arith) true p) ∙ q)
      by false p q = absurd (false≢true (sym (entry_by v (k * 6) (whole k) (omega arith) false p) ∙ q))

  each : all_even v ≡ true → Even
  each e k l = by (eqb (snr_of (get_or v (k * 6 + 5) 0)).odd 0) refl (reached e k (omega arith))
    where
      by : (t : Bool) → eqb (snr_of (get_or v (k * 6 + 5) 0)).odd 0 ≡ t → even_from (k * 6) (drop (k * 6) v) ≡ true → (snr_of (get_or v (k * 6 + 5) 0)).odd ≡ 0
      by true p q = eqb-true _ 0 p
      by false p q = absurd (false≢true (sym (entry_by v (k * 6) (whole k) l false p) ∙ q))

  from_entry : Even → (k : ℕ) → even_from (suc k * 6) (drop (suc k * 6) v) ≡ true → (t : Bool) → ltb (length v) (k * 6 + 6) ≡ t → even_from (k * 6) (drop (k * 6) v) ≡ true
  from_entry c k rest true p = even_end v (k * 6) (whole k) (ltb-true _ _ p)
  from_entry c k rest false p =
      entry_even v (k * 6) (whole k) (ltb-false _ _ p) (c k (ltb-false _ _ p)) ∙ rw (six_more k) rest

  all : Even → (n k : ℕ) → length v < (k + n) * 6 + 6 → even_from (k * 6) (drop (k * 6) v) ≡ true
  all c zero k l = even_end v (k * 6) (whole k) (omega arith)
  all c (suc n) k l = from_entry c k (all c n (suc k) (omega arith)) _ refl

  pub even_entries : (all_even v ≡ true → Even) × (Even → all_even v ≡ true)
  even_entries = (each, λ c. all c (length v) 0 (omega arith))

  -- and one that has some is enough
  abbrev pub Odd : Type 0
  Odd = (k : ℕ) × (k * 6 + 6 ≤ length v) × ((snr_of (get_or v (k * 6 + 5) 0)).odd ≡ 0 → ⊥)

  odd_entry : Odd → false ≡ all_even v
  odd_entry o = by (all_even v) refl
    where
      by : (t : Bool) → all_even v ≡ t → false ≡ t
      by true p = absurd (o.2 (even_entries.0 p o.0 o.1))
      by false p = refl

even_append : (i k : ℕ) (u w : List ℕ) → i + length u ≡ k → even_from i (u ++ w) ≡ (even_from i u && even_from k w)
unfolding even_from
even_append i k [] w e = let n : i ≡ k = omega arith in ap (λ (j : ℕ). even_from j w) n
even_append i k (b ∷ u) w e =
    ap (λ (t : Bool). is_even i b && t) (even_append (suc i) k u w (omega arith)) ∙ sym (and_assoc (is_even i b) (even_from (suc i) u) (even_from k w))

-- those of a part are those of the whole, where each whole entry lies in it: cited by two must-fail edits
pub even_part : (n : ℕ) (v : List ℕ) → length v / 6 * 6 ≤ n → all_even (take n v) ≡ all_even v
even_part n v h =
    let t = length-take n v in
    let d = length-drop n v in
    let k = length (take n v) in
    sym (and-true (all_even (take n v)))
    ∙ ap (λ (e : Bool). all_even (take n v) && e) (sym (few_even k (drop n v) (omega arith)))
    ∙ sym (even_append 0 k (take n v) (drop n v) (omega arith))
    ∙ ap all_even (take-append-drop n v)

-- an iterator over the entries, where a test asks for the odd bits of each: what `all` answers
module _ {S : Type 0} {steps : S → Option (Bor (List ℕ)) → S → Type 0} (p : Run steps) (v : List ℕ) (chunks : ItemsMapToExactChunks p (λ x. x.now) 6 v) where
  abbrev pub sixth : Bor (List ℕ) → ℕ
  sixth x = get_or x.now 5 0

  even_at_lem : p.whole ≡ true → AllItems p (λ x. (snr_of (sixth x)).odd ≡ 0) → Even v
  even_at_lem w a k l = by (p.at k) (read p.items refl) (a k) (chunks.2 k)
    where
      -- the item there
      read : (xs : List (Bor (List ℕ))) → p.items ≡ xs → option_len (p.at k) ≡ 1
      read [] e = let n = chunks.1 w in let m = p.long ∙ ap length e in absurd (omega arith)
      read (d ∷ xs) e = let n = chunks.1 w in let r = p.reads k d (omega arith) in one (p.at k) r
        where
          one : {y : Bor (List ℕ)} (o : Option (Bor (List ℕ))) → option_map (λ y. y) o ≡ Some y → option_len o ≡ 1
          one None r = cc
          one (Some x) r = refl

      by : (o : Option (Bor (List ℕ))) → option_len o ≡ 1 → IfSome o (λ x. (snr_of (sixth x)).odd ≡ 0)
          → IfSome o (λ x. (length x.now ≡ 6) × (k * 6 + 6 ≤ length v) × IsSubsliceAt 6 v (k * 6) x.now) → (snr_of (get_or v (k * 6 + 5) 0)).odd ≡ 0
      by None r z i = absurd (omega arith)
      by (Some x) r z i = rw (sym (i.2.2 5 0 (omega arith))) z

  odd_at_lem : AnyItem p (λ x. (snr_of (sixth x)).odd ≡ 0 → ⊥) → Odd v
  odd_at_lem a = let k = a.0 in by k (p.at k) a.2 (chunks.2 k)
    where
      by : (k : ℕ) (o : Option (Bor (List ℕ))) → IsSomeAnd o (λ x. (snr_of (sixth x)).odd ≡ 0 → ⊥)
          → IfSome o (λ x. (length x.now ≡ 6) × (k * 6 + 6 ≤ length v) × IsSubsliceAt 6 v (k * 6) x.now) → Odd v
      by k None z i = absurd z
      by k (Some x) z i = (k, i.1, rw (sym (i.2.2 5 0 (omega arith))) z)

  pub tests_even : (r : Bool) → MatchBool r (IsTrue p.whole × AllItems p (λ x. (snr_of (sixth x)).odd ≡ 0)) (AnyItem p (λ x. (snr_of (sixth x)).odd ≡ 0 → ⊥)) → r ≡ all_even v
  tests_even true m = sym ((even_entries v).1 (even_at_lem m.0 m.1))
  tests_even false m = odd_entry v (odd_at_lem m)

  -- so where a closure tells of each whether they are 0
  module _ {F : Type 0} {g : Mut F (Bor (List ℕ) × Unit {0}) Bool} {f : F} (keeps : CallKeepsClosure g f) (tells : (x : Bor (List ℕ)) (b : Bool) → Called g f (x, tt) b f → b ≡ eqb (snr_of (sixth x)).odd 0) where
    odd_tells : (o : Option (Bor (List ℕ))) → IsSomeAnd o (λ x. Called g f (x, tt) false f) → IsSomeAnd o (λ x. (snr_of (sixth x)).odd ≡ 0 → ⊥)
    odd_tells None h = h
    odd_tells (Some x) h = λ e. false≢true (tells x false h ∙ eq-eqb _ 0 e)

    pub told_even : (r : Bool) → MatchBool r (IsTrue p.whole × AllItemsGive p g f true) (AnyItemGives p g f false) → r ≡ all_even v
    told_even true m = tests_even true (m.0, λ k. IfSome_then (p.at k) (m.1 keeps k) (λ x h. eqb-true _ 0 (sym (tells x true h))))
    told_even false m = let a = m keeps in tests_even false (a.0, a.1, odd_tells (p.at a.0) a.2)

-- bytes are written as they are exactly if their odd bits are 0
byte_even : (i b : ℕ) → (is_even i b ≡ true → entry_byte i b ≡ b) × (entry_byte i b ≡ b → is_even i b ≡ true)
byte_even i b = by (eqb (i % 6) 5)
  where
    by : (t : Bool)
        → (pick t (eqb (snr_of b).odd 0) true ≡ true → pick t (even_byte b) b ≡ b) × (pick t (even_byte b) b ≡ b → pick t (eqb (snr_of b).odd 0) true ≡ true)
    by true = (λ e. (even_same b).0 (eqb-true _ 0 e), λ e. eq-eqb _ 0 ((even_same b).1 e))
    by false = (λ e. refl, λ e. refl)

even_from_lem : (i : ℕ) (v : List ℕ) → (even_from i v ≡ true → imap entry_byte i v ≡ v) × (imap entry_byte i v ≡ v → even_from i v ≡ true)
unfolding even_from
even_from_lem i [] = (λ e. refl, λ e. refl)
even_from_lem i (b ∷ v) =
    let one = byte_even i b in
    let more = even_from_lem (suc i) v in (
      λ e. let q = (and-eq-true_iff (is_even i b) (even_from (suc i) v)).0 e in one.0 q.0 ◂ more.0 q.1,
      λ e. ap₂ ◌&&◌ (one.1 (cc)) (more.1 (cc)),
    )

pub entries_as_written : (v : List ℕ) → (all_even v ≡ true → imap entry_byte 0 v ≡ v) × (imap entry_byte 0 v ≡ v → all_even v ≡ true)
entries_as_written v = even_from_lem 0 v
