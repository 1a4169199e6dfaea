-- What is absorbed is bytes, whatever is lent; so that a cipher that agrees with another on blocks gives the same tag. Assumes nothing.
use Prim.Native.Nat.{ℕ, zero, suc, ◌-◌, ◌%◌, ◌<◌}
use native.Mathlib.Omega.{arith}
use mathlib.Core.Bool.{Bool, true, false}
use mathlib.Core.Path.{◌≡◌, refl}
use mathlib.Core.List.{List, [], ◌∷◌}
use lib.Dec.{ltb, leb, eqb}
use lib.ListN.{length, take, drop}
use Rattle.base.specs.Pick.{pick}
use Rattle.base.specs.Lists.{Bytes, from, imap, joined}
use Rattle.base.specs.Answers.{bytes_or}
use Rattle.base.proofs.Bytes.{none_lt, cons_lt, append_lt, take_lt, drop_lt, zeros_lt}
use Rattle.wire.specs.Number.{be_bytes}
use Rattle.wire.specs.Part.{part_of}
use Rattle.wire.specs.Run.{run_refusal}
use Rattle.wire.proofs.Laws.Number.{be_small}
use Rattle.fields.specs.Meta.{after_rssi}
use Rattle.fields.specs.Path.{path_wire, six_of}
use Rattle.fields.specs.Signal.{rssi_byte, snr_byte}
use Rattle.fields.specs.declared.signal.SignalByte.{SignalByte}
use Rattle.fields.specs.declared.signal.SignalByte.TheVariants.{Byte, Refused as NoByte}
use Rattle.fields.specs.declared.path.RelayPath.{RelayPath}
use Rattle.fields.proofs.Laws.Signal.{rssi_byte_lt, snr_byte_lt}
use Rattle.heartbeats.specs.Paths.{PathLists, path_at, path_run, path_count}
use Rattle.items.specs.Items.{is_beat, bad_beat, kept, skipped, cut, pieces}
use Rattle.kept_items.specs.Kept.{headed, fixed, item_bytes, kept_wire, open_bytes}

pub part_lt : (s : List ℕ) (start len : ℕ) → Bytes s → Bytes (part_of s start len)
unfolding part_of
part_lt s start len h = by (ltb (length s) start) (ltb (length s - start) len) where
  by : (t u : Bool) → Bytes (pick t [] (pick u [] (take len (drop start s))))
  by true u = none_lt
  by false true = none_lt
  by false false = take_lt len (drop start s) (drop_lt start s h)

-- ---- items

fixed_lt : (beat : Bool) (i b : ℕ) → b < 256 → fixed beat i b < 256
unfolding fixed
fixed_lt false i b h = h
fixed_lt true i b h = by (eqb (i % 6) 5) where
  by : (t : Bool) → pick t (b % 64) b < 256
  by true = omega arith
  by false = h

value_lt : (beat : Bool) (i : ℕ) (v : List ℕ) → Bytes v → Bytes (imap (fixed beat) i v)
value_lt beat i [] h = none_lt
value_lt beat i (x ∷ v) h = cons_lt (fixed beat i x) (imap (fixed beat) (suc i) v) (fixed_lt beat i x (h 0)) (value_lt beat (suc i) v (λ k. h (suc k)))

headed_lt : (t : ℕ) (v : List ℕ) → t < 256 → Bytes v → Bytes (headed t v)
headed_lt t v h g = cons_lt t (length v % 256 ∷ v) h (cons_lt (length v % 256) v (omega arith) g)

pub item_lt : (beat : Bool) (t : ℕ) (v : List ℕ) → t < 256 → Bytes v → Bytes (item_bytes beat t v)
unfolding item_bytes
item_lt beat t v h g = headed_lt t (imap (fixed beat) 0 v) h (value_lt beat 0 v g)

kept_lt : (ev : Bool) (k : ℕ) (s : List ℕ) → Bytes s → Bytes (kept_wire ev (pieces ev k s))
unfolding pieces kept_wire item_bytes
kept_lt ev (suc k) [] h = none_lt
kept_lt ev (suc k) (x ∷ s) h = kept_lt ev k s (λ i. h (suc i))
kept_lt ev zero [] h = none_lt
kept_lt ev zero (t ∷ []) h = none_lt
kept_lt ev zero (t ∷ n ∷ s) h = by (leb n (length s)) (bad_beat ev t n) (kept_lt ev n s (λ i. h (suc (suc i)))) where
  by : (a b : Bool) → Bytes (kept_wire ev (pieces ev n s)) → Bytes (kept_wire ev (pick a (pick b (skipped (take n s)) (kept t (take n s)) ∷ pieces ev n s) (cut (t ∷ n ∷ s) ∷ [])))
  by false b rest = none_lt
  by true true rest = rest
  by true false rest =
      let v : Bytes (item_bytes (is_beat ev t) t (take n s)) = headed_lt t (imap (fixed (is_beat ev t)) 0 (take n s)) (h 0) (value_lt (is_beat ev t) 0 (take n s) (take_lt n s (λ i. h (suc (suc i))))) in
      append_lt (item_bytes (is_beat ev t) t (take n s)) (kept_wire ev (pieces ev n s)) v rest

-- ---- composed items

six_by : (p : RelayPath) (r s : SignalByte) → rssi_byte p.rssi ≡ r → snr_byte p.snr ≡ s → Bytes (bytes_or 6 (after_rssi (be_bytes 4 p.relay_id) [] s r))
six_by p (NoByte n) s e f = zeros_lt 6
six_by p (Byte r) (NoByte n) e f = zeros_lt 6
six_by p (Byte r) (Byte s) e f =
    let l = snr_byte_lt p.snr s f in
    append_lt (be_bytes 4 p.relay_id) (r ∷ s ∷ []) (be_small 4 p.relay_id) (cons_lt r (s ∷ []) (rssi_byte_lt p.rssi r e) (cons_lt s [] (omega arith) none_lt))

six_lt : (p : RelayPath) → Bytes (six_of p)
unfolding six_of path_wire
six_lt p = six_by p (rssi_byte p.rssi) (snr_byte p.snr) refl refl

joined_lt : {A : Type 0} (f : A → List ℕ) (n i : ℕ) (g : ℕ → A) → ((k : ℕ) → Bytes (f (g k))) → Bytes (joined f (from n i g))
unfolding joined
joined_lt f zero i g h = none_lt
joined_lt f (suc n) i g h = append_lt (f (g i)) (joined f (from n (suc i) g)) (h i) (joined_lt f n (suc i) g h)

path_lt : (l : PathLists) (place n : ℕ) → Bytes (joined six_of (path_run l place n))
unfolding path_run joined
path_lt l place n = by (eqb (run_refusal (path_count l) (record { start = place; len = n })) 0) where
  by : (t : Bool) → Bytes (joined six_of (pick t (from n place (path_at l)) []))
  by true = joined_lt six_of n place (path_at l) (λ k. six_lt (path_at l k))
  by false = none_lt

-- a path behind its head, and the items of an open payload
pub path_item_lt : (l : PathLists) (place n : ℕ) → Bytes (headed 0 (joined six_of (path_run l place n)))
path_item_lt l place n = headed_lt 0 (joined six_of (path_run l place n)) (omega arith) (path_lt l place n)

pub open_lt : (ev : Bool) (s : List ℕ) → Bytes s → Bytes (open_bytes ev s)
unfolding open_bytes
open_lt ev s h = kept_lt ev 0 s h
