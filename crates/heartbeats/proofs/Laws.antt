-- Laws of a heartbeat's value: its entries by their index, that what is written is read back, and what is written of what was read.
-- Assumes nothing.
use Prim.Native.Nat.{ℕ, zero, suc, ◌+◌, ◌-◌, ◌*◌, ◌/◌, ◌%◌, ◌≤◌, ◌<◌}
use native.Mathlib.Nat.{add-zero, le_of_suc-le-suc, not-suc-le-zero}
use native.Mathlib.Omega.{arith}
use mathlib.Core.Bool.{Bool, true, false}
use mathlib.Core.Path.{◌≡◌, refl, sym, ap, ap₂, subst, ◌∙◌}
use mathlib.Core.List.{List, [], ◌∷◌, ◌++◌, map}
use lib.Dec.{ltb, eqb, lit<}
use lib.IntN.{ℤ, pos, negsuc}
use lib.ListN.{length, get_or, take, drop, length-drop, length-map, get_or-append}
use lib.Seq.{ext_get_or, take-add, take_all, length-take-le, get_or-take, get_or-drop, get_or-append-add, get_or_at}
use borrow.Author.Tests.{lt-ltb, le-ltb, ltb-true, ltb-false, eq-eqb, ne_eqb, eqb-true}
use Rattle.base.proofs.Bytes.{append_lt}
use Rattle.base.specs.Pick.{pick}
use Rattle.base.specs.Numbers.{item_long, heartbeat_length, output_short, outside, item_most, path_most}
use Rattle.base.specs.Lists.{Bytes, imap, or_else, first_of, joined}
use Rattle.base.specs.Answers.{Answer, value, number, bytes, refused, bytes_or}
use Rattle.base.proofs.Lists.{◌◂◌, imap_length, imap_at, or_zero, listed}
use Rattle.wire.specs.Number.{be_bytes}
use Rattle.fields.specs.Signal.{even_byte, rssi_byte, snr_byte}
use Rattle.fields.specs.Meta.{after_rssi}
use Rattle.fields.specs.Path.{path_of, even_entry, path_wire, entry_byte}
use Rattle.fields.specs.declared.signal.SignalByte.{SignalByte}
use Rattle.fields.specs.declared.signal.SignalByte.TheVariants.{Byte, Refused as NoByte}
use Rattle.fields.specs.declared.path.RelayPath.{RelayPath}
use Rattle.fields.proofs.Laws.Bytes.{none, ◌▸◌, small}
use Rattle.fields.proofs.Laws.Path.{path_back, path_again, six_length, joined_length}
use Rattle.heartbeats.specs.Heartbeat.{six_at, entry_at, entries, paths_of, beat_refusal, entry_refusal, beat_of, entry_read, beat_wire, no_path, FourByteIds, beat_says, path_says}
use Rattle.fields.specs.Path.{bad_entry, six_of}
use Rattle.base.specs.Answers.{frame_number}
use Rattle.heartbeats.specs.declared.heartbeat.HeartbeatPayload.{HeartbeatPayload}
use Rattle.heartbeats.specs.declared.heartbeat.HeartbeatRead.TheVariants.{Heartbeat, Refused as NoBeat}
use Rattle.heartbeats.specs.declared.heartbeat.PathRead.TheVariants.{Entry, Refused as NoEntry}
use Rattle.heartbeats.proofs.Steps.{entries_length, first_snoc, joined_snoc}

-- ---- the entries by their index

pub paths_length : (v : List ℕ) → length (paths_of v) ≡ length v / 6
unfolding paths_of
paths_length v = entries_length v (length v / 6)

entries_at : (v : List ℕ) (n i : ℕ) → i < n → get_or (entries v n) i no_path ≡ entry_at v i
unfolding entries
entries_at v zero i h = absurd (not-suc-le-zero h)
entries_at v (suc n) i h = by (ltb i n) refl (entries_at v n i)
  where
    by : (t : Bool) → ltb i n ≡ t → (i < n → get_or (entries v n) i no_path ≡ entry_at v i) → get_or (entries v n ++ (entry_at v n ∷ [])) i no_path ≡ entry_at v i
    by true e r =
        let l : i < n = ltb-true i n e in
        let m = entries_length v n in
        get_or-append (entries v n) (entry_at v n ∷ []) no_path i (omega arith) ∙ r l
    by false e r =
        let l : n ≤ i = ltb-false i n e in
        let q : n ≡ i = omega arith in
        get_or_at (entries v n) (entry_at v n) [] no_path i (entries_length v n ∙ q) ∙ ap (entry_at v) q

pub paths_at : (v : List ℕ) (i : ℕ) → i < length v / 6 → get_or (paths_of v) i no_path ≡ entry_at v i
unfolding paths_of
paths_at v i h = entries_at v (length v / 6) i h

-- ---- one entry

module _ (v : List ℕ) (places i : ℕ) where
  abbrev says : Bool → Bool → Bool → Answer HeartbeatPayload
  says s t u =
      let n = or_else (pick s item_long (pick t heartbeat_length 0)) (pick u output_short 0) in
      beat_says (pick (eqb n 0) (Heartbeat (record { entries = length v / 6 })) (NoBeat n))

  abbrev reads : Bool → Bool → Bool → Answer RelayPath
  reads s t u =
      let n = or_else (pick s item_long (pick t heartbeat_length 0)) (pick u 0 outside) in
      path_says (pick (eqb n 0) (Entry (entry_at v i)) (NoEntry n))

  -- a value that the reader refuses, but for its list's places, has no entries: each is refused with the same number
  pub refused_entries : (n : ℕ) → (n ≡ output_short → ⊥) → beat_says (beat_of v places) ≡ number n → path_says (entry_read v i) ≡ number n
  unfolding beat_of beat_refusal entry_read entry_refusal
  refused_entries n h = by (ltb item_most (length v)) (ltb 0 (length v % 6)) (ltb places (length v / 6))
    where
      by : (s t u : Bool) → says s t u ≡ number n → reads s t (ltb i (length v / 6)) ≡ number n
      by true t u e = let q : item_long ≡ n = cc in ap number q
      by false true u e = let q : heartbeat_length ≡ n = cc in ap number q
      by false false true e = let q : n ≡ output_short = cc in absurd (h q)
      by false false false e = let z : ◌≡◌ {A = ℕ} 0 1 = cc in absurd (omega arith)

  -- of one that it takes, those below its count are there
  pub taken_entries : (h : HeartbeatPayload) → beat_says (beat_of v places) ≡ value h
      → (i < h.entries → path_says (entry_read v i) ≡ value (get_or (paths_of v) i no_path)) × (h.entries ≤ i → path_says (entry_read v i) ≡ number outside)
  unfolding beat_of beat_refusal entry_read entry_refusal
  taken_entries h = by (ltb item_most (length v)) (ltb 0 (length v % 6)) (ltb places (length v / 6))
    where
      by : (s t u : Bool) → says s t u ≡ value h
          → (i < h.entries → reads s t (ltb i (length v / 6)) ≡ value (get_or (paths_of v) i no_path)) × (h.entries ≤ i → reads s t (ltb i (length v / 6)) ≡ number outside)
      by true t u e = let z : ◌≡◌ {A = ℕ} 0 1 = cc in absurd (omega arith)
      by false true u e = let z : ◌≡◌ {A = ℕ} 0 1 = cc in absurd (omega arith)
      by false false true e = let z : ◌≡◌ {A = ℕ} 0 1 = cc in absurd (omega arith)
      by false false false e =
          let g : record { entries = length v / 6 } ≡ h = cc in
          let q : length v / 6 ≡ h.entries = ap (λ (x : HeartbeatPayload). x.entries) g in (
            λ l. let k : i < length v / 6 = omega arith in rw (lt-ltb i (length v / 6) k) (ap value (sym (paths_at v i k))),
            λ l. let k : length v / 6 ≤ i = omega arith in rw (le-ltb i (length v / 6) k) refl,
          )

-- ---- what is written

-- a signal's refusal has a number
abbrev Good : SignalByte → Type 0
Good (Byte b) = Unit {0}
Good (NoByte n) = 0 < n

rssi_good : (z : ℤ) → Good (rssi_byte z)
unfolding rssi_byte
rssi_good (pos zero) = tt
rssi_good (pos (suc n)) = lit< tt
rssi_good (negsuc n) = by (ltb n 255)
  where
    by : (t : Bool) → Good (pick t (Byte (n + 1)) (NoByte 11))
    by true = tt
    by false = lit< tt

snr_good : (z : ℤ) → Good (snr_byte z)
unfolding snr_byte
snr_good (pos n) = by (ltb n 32)
  where
    by : (t : Bool) → Good (pick t (Byte n) (NoByte 13))
    by true = tt
    by false = lit< tt
snr_good (negsuc n) = by (ltb n 32)
  where
    by : (t : Bool) → Good (pick t (Byte (63 - n)) (NoByte 12))
    by true = tt
    by false = lit< tt

signals_good : (a : List ℕ) (s r : SignalByte) → Good s → Good r → frame_number (after_rssi a [] s r) ≡ 0 → after_rssi a [] s r ≡ bytes (bytes_or 6 (after_rssi a [] s r))
signals_good a s (NoByte n) hs hr e = absurd (omega arith)
signals_good a (NoByte n) (Byte r) hs hr e = absurd (omega arith)
signals_good a (Byte s) (Byte r) hs hr e = refl

-- an entry that is not bad is its six bytes
pub good_entry : (p : RelayPath) → bad_entry p ≡ 0 → path_wire p ≡ bytes (six_of p)
unfolding bad_entry six_of path_wire
good_entry p = signals_good (be_bytes 4 p.relay_id) (snr_byte p.snr) (rssi_byte p.rssi) (snr_good p.snr) (rssi_good p.rssi)

-- what a path that is written is
pub wire_was : (ps : List RelayPath) (w : List ℕ) → beat_wire ps ≡ bytes w → (first_of bad_entry ps ≡ 0) × (length ps ≤ 42) × (w ≡ joined six_of ps)
unfolding beat_wire
wire_was ps w = by (eqb (first_of bad_entry ps) 0) (ltb path_most (length ps)) refl refl
  where
    by : (s t : Bool) → eqb (first_of bad_entry ps) 0 ≡ s → ltb path_most (length ps) ≡ t → pick s (pick t (refused item_long) (bytes (joined six_of ps))) (refused (first_of bad_entry ps)) ≡ bytes w
        → (first_of bad_entry ps ≡ 0) × (length ps ≤ 42) × (w ≡ joined six_of ps)
    by false t hs ht e = let z : ◌≡◌ {A = ℕ} 0 1 = cc in absurd (omega arith)
    by true true hs ht e = let z : ◌≡◌ {A = ℕ} 0 1 = cc in absurd (omega arith)
    by true false hs ht e = (eqb-true _ _ hs, ltb-false _ _ ht, cc)

-- odd bits are not looked at
even_first : (ps : List RelayPath) → first_of bad_entry (map even_entry ps) ≡ first_of bad_entry ps
unfolding first_of bad_entry path_wire
even_first [] = refl
even_first (p ∷ ps) = ap (or_else (bad_entry p)) (even_first ps)

even_joined : (ps : List RelayPath) → joined six_of (map even_entry ps) ≡ joined six_of ps
unfolding joined six_of path_wire
even_joined [] = refl
even_joined (p ∷ ps) = ap (λ (w : List ℕ). six_of p ++ w) (even_joined ps)

pub even_beat : (ps : List RelayPath) → beat_wire (map even_entry ps) ≡ beat_wire ps
unfolding beat_wire
even_beat ps = rw (even_first ps, even_joined ps, length-map ps even_entry) refl

-- ---- reading what was written: without odd bits

six_first : (s v : List ℕ) → length s ≡ 6 → six_at (s ++ v) 0 ≡ s
six_first s v h = ap (λ (x : List ℕ). six_at (x ++ v) 0) (sym (listed 6 s h)) ∙ listed 6 s h

skip : (s v : List ℕ) (m n : ℕ) → length s ≡ 6 → m ≡ 6 + n → get_or (s ++ v) m 0 ≡ get_or v n 0
skip s v m n h e = let q : m ≡ length s + n = omega arith in ap (λ (k : ℕ). get_or (s ++ v) k 0) q ∙ get_or-append-add s v n 0

six_skip : (s v : List ℕ) (i : ℕ) → length s ≡ 6 → six_at (s ++ v) (suc i * 6) ≡ six_at v (i * 6)
six_skip s v i h =
    skip s v (suc i * 6) (i * 6) h (omega arith)
    ◂ skip s v (suc i * 6 + 1) (i * 6 + 1) h (omega arith)
    ◂ skip s v (suc i * 6 + 2) (i * 6 + 2) h (omega arith)
    ◂ skip s v (suc i * 6 + 3) (i * 6 + 3) h (omega arith)
    ◂ skip s v (suc i * 6 + 4) (i * 6 + 4) h (omega arith)
    ◂ skip s v (suc i * 6 + 5) (i * 6 + 5) h (omega arith)
    ◂ refl

even_at_lem : (ps : List RelayPath) (i : ℕ) → get_or (map even_entry ps) i no_path ≡ even_entry (get_or ps i no_path)
even_at_lem [] i = refl
even_at_lem (p ∷ ps) zero = refl
even_at_lem (p ∷ ps) (suc i) = even_at_lem ps i

entry_back : (ps : List RelayPath) → FourByteIds ps → first_of bad_entry ps ≡ 0 → (i : ℕ) → i < length ps → entry_at (joined six_of ps) i ≡ even_entry (get_or ps i no_path)
unfolding entry_at joined first_of
entry_back [] h e i l = absurd (not-suc-le-zero l)
entry_back (p ∷ ps) h e zero l =
    ap path_of (six_first (six_of p) (joined six_of ps) (six_length p)) ∙ (path_back p (six_of p) (h 0) (good_entry p (or_zero (bad_entry p) (first_of bad_entry ps) e).0)).2
entry_back (p ∷ ps) h e (suc i) l =
    ap path_of (six_skip (six_of p) (joined six_of ps) i (six_length p))
    ∙ entry_back ps (λ k. h (suc k)) (or_zero (bad_entry p) (first_of bad_entry ps) e).1 i (le_of_suc-le-suc l)

joined_bytes : (ps : List RelayPath) → FourByteIds ps → first_of bad_entry ps ≡ 0 → Bytes (joined six_of ps)
unfolding joined first_of
joined_bytes [] h e i = omega arith
joined_bytes (p ∷ ps) h e i =
    append_lt (six_of p) (joined six_of ps) (path_back p (six_of p) (h 0) (good_entry p (or_zero (bad_entry p) (first_of bad_entry ps) e).0)).1
    (joined_bytes ps (λ k. h (suc k)) (or_zero (bad_entry p) (first_of bad_entry ps) e).1) i

-- what is written reads back as the same records, without odd bits
pub beat_back : (ps : List RelayPath) (w : List ℕ) → FourByteIds ps → beat_wire ps ≡ bytes w → (length w ≡ length ps * 6) × (Bytes w) × (paths_of w ≡ map even_entry ps)
beat_back ps w h e =
    let g = wire_was ps w e in
    let l : length w ≡ length ps * 6 = ap length g.2 ∙ joined_length ps in
    let n : length w / 6 ≡ length ps = omega arith in
    let k : length (map even_entry ps) ≡ length ps = length-map ps even_entry in
    let m : length (paths_of w) ≡ length (map even_entry ps) = paths_length w ∙ n ∙ sym k in
    (l, subst Bytes (sym g.2) (joined_bytes ps h g.0), ext_get_or no_path (paths_of w) (map even_entry ps) m (λ i q. let r : i < length ps = omega arith in paths_at w i (omega arith) ∙ ap (λ (x : List ℕ). entry_at x i) g.2 ∙ entry_back ps h g.0 i r ∙ sym (even_at_lem ps i)))

-- and the reader takes it, where the list has the places
pub beat_read : (ps : List RelayPath) (w : List ℕ) (places : ℕ) → beat_wire ps ≡ bytes w → length ps ≤ places → beat_of w places ≡ Heartbeat (record { entries = length ps })
unfolding beat_of beat_refusal
beat_read ps w places e h =
    let g = wire_was ps w e in
    let l : length w ≡ length ps * 6 = ap length g.2 ∙ joined_length ps in
    let n : length w / 6 ≡ length ps = omega arith in
    let a : length w ≤ 255 = omega arith in
    let b : length w % 6 ≤ 0 = omega arith in
    let c : length w / 6 ≤ places = omega arith in
    simp (le-ltb 255 (length w) a, le-ltb 0 (length w % 6) b, le-ltb places (length w / 6) c) (ap (λ (k : ℕ). Heartbeat (record { entries = k })) n)

-- ---- writing what was read

same : (v : List ℕ) (k : ℕ) → k < length v → (k % 6 ≡ 5 → ⊥) → get_or v k 0 ≡ get_or (imap entry_byte 0 v) k 0
same v k l h = sym (imap_at entry_byte v k l ∙ simp (ne_eqb (k % 6) 5 h))

last : (v : List ℕ) (k : ℕ) → k < length v → k % 6 ≡ 5 → even_byte (get_or v k 0) ≡ get_or (imap entry_byte 0 v) k 0
last v k l h = sym (imap_at entry_byte v k l ∙ simp (eq-eqb (k % 6) 5 h))

-- six bytes of a list at a place
place : (s : List ℕ) (k j m : ℕ) → j < 6 → k + j ≡ m → get_or (take 6 (drop k s)) j 0 ≡ get_or s m 0
place s k j m l e = get_or-take 6 (drop k s) j 0 l ∙ get_or-drop k s j 0 ∙ ap (λ (n : ℕ). get_or s n 0) e

six_part : (s : List ℕ) (k : ℕ) → k + 6 ≤ length s → six_at s k ≡ take 6 (drop k s)
six_part s k h =
    let l : length (take 6 (drop k s)) ≡ 6 = length-take-le 6 (drop k s) (rw (length-drop k s) (omega arith)) in
    sym (place s k 0 k (lit< tt) (add-zero k) ◂ place s k 1 (k + 1) (lit< tt) refl ◂ place s k 2 (k + 2) (lit< tt) refl ◂ place s k 3 (k + 3) (lit< tt) refl ◂ place s k 4 (k + 4) (lit< tt) refl ◂ place s k 5 (k + 5) (lit< tt) refl ◂ refl)
    ∙ listed 6 (take 6 (drop k s)) l

module _ (v : List ℕ) (h : Bytes v) where
  entry_again : (i : ℕ) → path_wire (entry_at v i) ≡ bytes (get_or v (i * 6) 0 ∷ get_or v (i * 6 + 1) 0 ∷ get_or v (i * 6 + 2) 0 ∷ get_or v (i * 6 + 3) 0 ∷ get_or v (i * 6 + 4) 0 ∷ even_byte (get_or v (i * 6 + 5) 0) ∷ [])
  unfolding entry_at
  entry_again i =
      let k = i * 6 in
      path_again (six_at v k) refl (small (h k ▸ h (k + 1) ▸ h (k + 2) ▸ h (k + 3) ▸ h (k + 4) ▸ h (k + 5) ▸ none))

  none_bad : (n : ℕ) → first_of bad_entry (entries v n) ≡ 0
  unfolding entries first_of bad_entry
  none_bad zero = refl
  none_bad (suc n) = first_snoc bad_entry (entries v n) (entry_at v n) ∙ ap₂ or_else (none_bad n) (ap frame_number (entry_again n))

  six_again : (i : ℕ) → i * 6 + 6 ≤ length v → six_of (entry_at v i) ≡ six_at (imap entry_byte 0 v) (i * 6)
  unfolding six_of
  six_again i l =
      let k = i * 6 in
      ap (bytes_or 6) (entry_again i)
      ∙ (same v k (omega arith) (omega arith)
      ◂ same v (k + 1) (omega arith) (omega arith)
      ◂ same v (k + 2) (omega arith) (omega arith)
      ◂ same v (k + 3) (omega arith) (omega arith)
      ◂ same v (k + 4) (omega arith) (omega arith)
      ◂ last v (k + 5) (omega arith) (omega arith)
      ◂ refl)

  entries_again : (n : ℕ) → n * 6 ≤ length v → joined six_of (entries v n) ≡ take (n * 6) (imap entry_byte 0 v)
  unfolding entries joined
  entries_again zero l = refl
  entries_again (suc n) l =
      let c = imap entry_byte 0 v in
      let m : length c ≡ length v = imap_length entry_byte 0 v in
      let e : n * 6 + 6 ≡ suc n * 6 = omega arith in
      joined_snoc six_of (entries v n) (entry_at v n)
      ∙ ap₂ {B = List ℕ} (λ (x y : List ℕ). x ++ y) (entries_again n (omega arith)) (six_again n (omega arith) ∙ six_part c (n * 6) (omega arith))
      ∙ sym (take-add (n * 6) 6 c)
      ∙ ap (λ (j : ℕ). take j c) e

  -- a value of whole entries, read and written
  pub beat_again : length v % 6 ≡ 0 → joined six_of (paths_of v) ≡ imap entry_byte 0 v
  unfolding paths_of
  beat_again e =
      let m : length (imap entry_byte 0 v) ≡ length v = imap_length entry_byte 0 v in
      entries_again (length v / 6) (omega arith) ∙ take_all (length v / 6 * 6) (imap entry_byte 0 v) (omega arith)

  paths_good : first_of bad_entry (paths_of v) ≡ 0
  unfolding paths_of
  paths_good = none_bad (length v / 6)

  pub wire_again : length v % 6 ≡ 0 → length v ≤ 255 → beat_wire (paths_of v) ≡ bytes (imap entry_byte 0 v)
  unfolding beat_wire
  wire_again e l =
      let n : length (paths_of v) ≡ length v / 6 = paths_length v in
      let m : length (paths_of v) ≤ 42 = omega arith in
      simp (paths_good, le-ltb 42 (length (paths_of v)) m, beat_again e)
