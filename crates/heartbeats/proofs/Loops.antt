-- The loops over a run of entries in three lists, and what writing all of them answers and leaves, on plain values. Assumes nothing.
use Prim.Native.Nat.{ℕ, ◌+◌, ◌*◌, ◌<◌, ◌≤◌}
use native.Mathlib.Omega.{arith}
use mathlib.Core.Path.{◌≡◌, sym, ap, ◌∙◌}
use mathlib.Core.List.{List, [], ◌++◌}
use lib.ListN.{length, get_or, drop}
use borrow.Author.Tests.{lt-ltb, le-ltb, ne_eqb}
use Rattle.base.specs.Lists.{first_of, joined}
use Rattle.base.specs.Numbers.{item_long, output_short, path_most}
use Rattle.base.specs.Answers.{bytes, answer_of, out_of}
use Rattle.base.specs.declared.Checked.TheVariants.{Accepted, Refused as No}
use Rattle.base.specs.declared.Written.TheVariants.{Bytes, Refused}
use Rattle.base.proofs.Answers.{no_room, room}
use Rattle.base.proofs.Lists.{from_length, Passed, passed_more, passed_stop, passed_all, joined_more, joined_all}
use Rattle.wire.specs.Lay.{put}
use Rattle.wire.proofs.Laws.Lay.{put_none, put_front, Joining, joining_none, joining_more, joining_done}
use Rattle.fields.specs.Path.{path_bytes, bad_entry, six_of}
use Rattle.fields.specs.declared.path.PathBytes.{PathBytes}
use Rattle.fields.specs.declared.path.RelayPath.{RelayPath}
use Rattle.fields.proofs.Laws.Path.{six_length, joined_length}
use Rattle.heartbeats.specs.Heartbeat.{beat_wire}
use Rattle.heartbeats.specs.Paths.{PathLists, path_count, path_at, paths_in, path_run, held_of}
use Rattle.heartbeats.proofs.Runs.{held_in_lem, run_length, run_at_lem, run_all, path_length, told_bad, told_some, told_good, told_six}

module _ (l : PathLists) (place len k n : ℕ) (ek : k ≡ path_count l) (en : n ≡ held_of k place len) where
  abbrev ps : List RelayPath
  ps = path_run l place len

  abbrev all : List ℕ
  all = joined six_of ps

  count : n ≡ held_of (path_count l) place len
  count = en ∙ ap (λ (m : ℕ). held_of m place len) ek

  run_count : length ps ≡ n
  run_count = run_length l place len ∙ sym count

  pub entry_in : (i : ℕ) → i < n → place + i < path_count l
  entry_in i h = held_in_lem (path_count l) place len i (rw (← count) h)

  module _ (i : ℕ) (w : PathBytes) (h : i < n) (e : w ≡ path_bytes (path_at l (place + i))) where
    abbrev p : RelayPath
    p = path_at l (place + i)

    in_run : i < length ps
    in_run = rw run_count h

    the_entry : get_or ps i p ≡ p
    the_entry = run_at_lem l place len p i (rw (← count) h)

    pub path_more : w.answer ≡ Accepted → Passed bad_entry ps i → Passed bad_entry ps (i + 1)
    path_more q y = passed_more bad_entry ps i p in_run (ap bad_entry the_entry ∙ sym (told_good p w e q)) y

    pub path_stop : (r : ℕ) → w.answer ≡ No r → Passed bad_entry ps i → r ≡ first_of bad_entry ps
    path_stop r q y = passed_stop bad_entry ps i p r in_run (ap bad_entry the_entry ∙ sym (told_bad p w e r q)) (told_some p w e r q) y

    six : length w.bytes ≡ 6
    six = ap length (told_six p w e) ∙ six_length p

    -- its six bytes, and the rest
    pub six_ahead : joined six_of (drop i ps) ≡ w.bytes ++ joined six_of (drop (i + 1) ps)
    six_ahead = joined_more six_of ps i p in_run ∙ ap (λ (x : List ℕ). x ++ joined six_of (drop (i + 1) ps)) (ap six_of the_entry ∙ sym (told_six p w e))

    module _ (o₀ out : List ℕ) (at : ℕ) (j : Joining o₀ at all out (6 * i) (joined six_of (drop i ps))) where
      pub six_more : (out2 : List ℕ) → out2 ≡ put out (at + 6 * i) w.bytes → Joining o₀ at all out2 (6 * (i + 1)) (joined six_of (drop (i + 1) ps))
      six_more out2 q =
          let e : 6 * (i + 1) ≡ 6 * i + 6 = omega arith in
          rw e (joining_more o₀ at all out (6 * i) _ j w.bytes (joined six_of (drop (i + 1) ps)) out2 6 six_ahead (sym six) q)

  pub path_all : (i : ℕ) → n ≤ i → Passed bad_entry ps i → 0 ≡ first_of bad_entry ps
  path_all i h w = passed_all bad_entry ps i (rw run_count h) w

  pub six_none : (i : ℕ) → n ≤ i → joined six_of (drop i ps) ≡ []
  six_none i h = joined_all six_of ps i (rw run_count h)

  pub path_bytes_lem : length all ≡ 6 * n
  path_bytes_lem = path_length l place len ∙ ap (λ (m : ℕ). 6 * m) (sym count)

  pub path_none : (o₀ : List ℕ) (at : ℕ) → length o₀ < at + 6 * n → o₀ ≡ put o₀ at all
  path_none o₀ at h = let y = path_bytes_lem in sym (put_none o₀ at all (omega arith))

  pub path_begin : (o₀ : List ℕ) (at : ℕ) → at + 6 * n ≤ length o₀ → Joining o₀ at all o₀ 0 all
  path_begin o₀ at h = let y = path_bytes_lem in joining_none o₀ at all (omega arith)

  pub path_done : (o₀ out : List ℕ) (at i o : ℕ) → n ≤ i → Joining o₀ at all out o (joined six_of (drop i ps)) → out ≡ put o₀ at all
  path_done o₀ out at i o h j = joining_done o₀ at all out o _ j (six_none i h)

-- ---- all entries, written

module _ (l : PathLists) (n bad : ℕ) (o : List ℕ) (en : n ≡ path_count l) (eb : bad ≡ first_of bad_entry (path_run l 0 n)) where
  abbrev qs : List RelayPath
  qs = paths_in l

  all_is : path_run l 0 n ≡ qs
  all_is = ap (path_run l 0) en ∙ run_all l

  first_is : bad ≡ first_of bad_entry qs
  first_is = eb ∙ ap (first_of bad_entry) all_is

  long : length qs ≡ n
  unfolding paths_in
  long = from_length (path_count l) 0 (path_at l) ∙ sym en

  pub bad_told : (bad ≡ 0 → ⊥) → (Refused bad ≡ answer_of (beat_wire qs) o) × (o ≡ out_of (beat_wire qs) o)
  unfolding beat_wire answer_of out_of
  bad_told h = (rw (← first_is, ne_eqb bad 0 h), rw (← first_is, ne_eqb bad 0 h))

  module _ (z : bad ≡ 0) where
    good : first_of bad_entry qs ≡ 0
    good = sym first_is ∙ z

    pub long_told : path_most < n → (Refused item_long ≡ answer_of (beat_wire qs) o) × (o ≡ out_of (beat_wire qs) o)
    unfolding beat_wire answer_of out_of
    long_told k = let c = long in (rw (good, lt-ltb path_most (length qs) (omega arith)), rw (good, lt-ltb path_most (length qs) (omega arith)))

    module _ (k : n ≤ path_most) where
      the_bytes : beat_wire qs ≡ bytes (joined six_of qs)
      unfolding beat_wire
      the_bytes = let c = long in rw (good, le-ltb path_most (length qs) (omega arith))

      the_length : length (joined six_of qs) ≡ n * 6
      the_length = joined_length qs ∙ ap (λ (m : ℕ). m * 6) long

      pub short_told : length o < n * 6 → (Refused output_short ≡ answer_of (beat_wire qs) o) × (o ≡ out_of (beat_wire qs) o)
      short_told r =
          let m = the_length in
          let f = no_room (joined six_of qs) o (omega arith) in
          rw the_bytes (sym f.0, sym f.1)

      pub all_told : n * 6 ≤ length o → (out : List ℕ) → out ≡ put o 0 (joined six_of (path_run l 0 n)) → (Bytes (n * 6) ≡ answer_of (beat_wire qs) o) × (out ≡ out_of (beat_wire qs) o)
      all_told r out p =
          let m = the_length in
          let f = room (joined six_of qs) o (omega arith) in
          rw the_bytes (
            ap Bytes (sym m) ∙ sym f.0,
            p ∙ ap (λ (x : List RelayPath). put o 0 (joined six_of x)) all_is ∙ put_front o (joined six_of qs) (omega arith),
          )
