-- Laws of a run in a list, of a path's entries in three lists, and of an entry's answer and bytes. Assumes nothing.
use Prim.Native.Nat.{ℕ, zero, suc, ◌+◌, ◌-◌, ◌*◌, ◌<◌, ◌≤◌}
use native.Mathlib.Nat.{not-suc-le-zero}
use native.Mathlib.Omega.{arith}
use mathlib.Core.Bool.{Bool, true, false}
use mathlib.Core.Path.{◌≡◌, refl, sym, ap, ◌∙◌}
use mathlib.Core.List.{List, []}
use lib.Dec.{ltb, eqb}
use lib.IntN.{ℤ, pos, negsuc}
use lib.ListN.{length, get_or}
use borrow.Author.Tests.{eqb-true}
use Rattle.base.specs.Pick.{pick}
use Rattle.base.specs.Numbers.{rssi_large, rssi_small, snr_small, snr_large}
use Rattle.base.specs.Lists.{from, joined}
use Rattle.base.specs.Answers.{Writing, bytes, refused, checked_of, frame_number}
use Rattle.base.specs.declared.Checked.TheVariants.{Accepted, Refused as No}
use Rattle.base.proofs.Lists.{from_length, from_at}
use Rattle.wire.specs.Number.{be_bytes}
use Rattle.wire.specs.Run.{run_refusal, run_at}
use Rattle.wire.proofs.Laws.Part.{fits as run_fits, inside}
use Rattle.fields.specs.Signal.{rssi_byte, snr_byte}
use Rattle.fields.specs.Meta.{after_rssi}
use Rattle.fields.specs.Path.{path_wire, path_bytes, bad_entry, six_of}
use Rattle.fields.specs.declared.path.RelayPath.{RelayPath}
use Rattle.fields.specs.declared.path.PathBytes.{PathBytes}
use Rattle.fields.specs.declared.signal.SignalByte.{SignalByte}
use Rattle.fields.specs.declared.signal.SignalByte.TheVariants.{Byte, Refused as NoByte}
use Rattle.fields.proofs.Laws.Path.{joined_length}
use Rattle.heartbeats.specs.Paths.{PathLists, path_count, path_at, paths_in, path_run, held_of}

-- ---- a run in a list of n

module _ (n place len : ℕ) where
  fits : run_refusal n (run_at place len) ≡ 0 → 0 < len → place + len ≤ n
  unfolding run_refusal
  fits e h = run_fits n place len e h

  -- what is held lies in the list
  pub held_in_lem : (i : ℕ) → i < held_of n place len → place + i < n
  unfolding held_of
  held_in_lem i h = go (eqb (run_refusal n (run_at place len)) 0) refl h
    where
      go : (t : Bool) → eqb (run_refusal n (run_at place len)) 0 ≡ t → i < pick t len 0 → place + i < n
      go true e k = let f = fits (eqb-true _ _ e) (omega arith) in omega arith
      go false e k = absurd (not-suc-le-zero k)

  pub held_le : held_of n place len ≤ len
  unfolding held_of
  held_le = go (eqb (run_refusal n (run_at place len)) 0)
    where
      go : (t : Bool) → pick t len 0 ≤ len
      go true = omega arith
      go false = omega arith

-- ---- a path's entries

module _ (l : PathLists) (place n : ℕ) where
  run_is : path_run l place n ≡ from (held_of (path_count l) place n) place (path_at l)
  unfolding path_run held_of
  run_is = go (eqb (run_refusal (path_count l) (run_at place n)) 0)
    where
      go : (t : Bool) → pick t (from n place (path_at l)) [] ≡ from (pick t n 0) place (path_at l)
      go true = refl
      go false = refl

  pub run_length : length (path_run l place n) ≡ held_of (path_count l) place n
  run_length = ap length run_is ∙ from_length (held_of (path_count l) place n) place (path_at l)

  pub run_at_lem : (z : RelayPath) (i : ℕ) → i < held_of (path_count l) place n → get_or (path_run l place n) i z ≡ path_at l (place + i)
  run_at_lem z i h = ap (λ (xs : List RelayPath). get_or xs i z) run_is ∙ from_at (held_of (path_count l) place n) place (path_at l) z i h

-- all entries are the run from the first on
pub run_all : (l : PathLists) → path_run l 0 (path_count l) ≡ paths_in l
unfolding path_run paths_in run_refusal
run_all l = rw (inside (path_count l) 0 (path_count l) (omega arith))

-- ---- an entry's six bytes

pub path_length : (l : PathLists) (place n : ℕ) → length (joined six_of (path_run l place n)) ≡ 6 * held_of (path_count l) place n
path_length l place n = let r = run_length l place n in joined_length (path_run l place n) ∙ omega arith

-- what an entry's answer says, and its bytes
pub told_bad : (p : RelayPath) (w : PathBytes) → w ≡ path_bytes p → (n : ℕ) → w.answer ≡ No n → n ≡ bad_entry p
unfolding path_bytes bad_entry
told_bad p w e n a = go (path_wire p) (sym (ap (λ (x : PathBytes). x.answer) e) ∙ a)
  where
    go : (f : Writing) → checked_of f ≡ No n → n ≡ frame_number f
    go (bytes v) q = absurd (let z : ◌≡◌ {A = ℕ} 0 1 = cc in omega arith)
    go (refused k) q = cc

-- a number of a refusal is not 0
rssi_some : (x : ℤ) (n : ℕ) → rssi_byte x ≡ NoByte n → n ≡ 0 → ⊥
unfolding rssi_byte
rssi_some (pos zero) n q z = let y : ◌≡◌ {A = ℕ} 0 1 = cc in omega arith
rssi_some (pos (suc k)) n q z = let y : rssi_large ≡ n = cc in omega arith
rssi_some (negsuc k) n q z = go (ltb k 255) q
  where
    go : (t : Bool) → pick t (Byte (k + 1)) (NoByte rssi_small) ≡ NoByte n → ⊥
    go true r = let y : ◌≡◌ {A = ℕ} 0 1 = cc in omega arith
    go false r = let y : rssi_small ≡ n = cc in omega arith

snr_some : (x : ℤ) (n : ℕ) → snr_byte x ≡ NoByte n → n ≡ 0 → ⊥
unfolding snr_byte
snr_some (pos k) n q z = go (ltb k 32) q
  where
    go : (t : Bool) → pick t (Byte k) (NoByte snr_large) ≡ NoByte n → ⊥
    go true r = let y : ◌≡◌ {A = ℕ} 0 1 = cc in omega arith
    go false r = let y : snr_large ≡ n = cc in omega arith
snr_some (negsuc k) n q z = go (ltb k 32) q
  where
    go : (t : Bool) → pick t (Byte (63 - k)) (NoByte snr_small) ≡ NoByte n → ⊥
    go true r = let y : ◌≡◌ {A = ℕ} 0 1 = cc in omega arith
    go false r = let y : snr_small ≡ n = cc in omega arith

pub told_some : (p : RelayPath) (w : PathBytes) → w ≡ path_bytes p → (n : ℕ) → w.answer ≡ No n → n ≡ 0 → ⊥
unfolding path_bytes path_wire
told_some p w e n a = go (rssi_byte p.rssi) (snr_byte p.snr) refl refl (sym (ap (λ (x : PathBytes). x.answer) e) ∙ a)
  where
    go : (r s : SignalByte) → rssi_byte p.rssi ≡ r → snr_byte p.snr ≡ s → checked_of (after_rssi (be_bytes 4 p.relay_id) [] s r) ≡ No n → n ≡ 0 → ⊥
    go (NoByte k) s u v q = let y : k ≡ n = cc in rssi_some p.rssi n (u ∙ ap NoByte y)
    go (Byte k) (NoByte m) u v q = let y : m ≡ n = cc in snr_some p.snr n (v ∙ ap NoByte y)
    go (Byte k) (Byte m) u v q = absurd (let y : ◌≡◌ {A = ℕ} 0 1 = cc in omega arith)

pub told_good : (p : RelayPath) (w : PathBytes) → w ≡ path_bytes p → w.answer ≡ Accepted → 0 ≡ bad_entry p
unfolding path_bytes bad_entry
told_good p w e a = go (path_wire p) (sym (ap (λ (x : PathBytes). x.answer) e) ∙ a)
  where
    go : (f : Writing) → checked_of f ≡ Accepted → 0 ≡ frame_number f
    go (bytes v) q = refl
    go (refused k) q = absurd (let z : ◌≡◌ {A = ℕ} 0 1 = cc in omega arith)

pub told_six : (p : RelayPath) (w : PathBytes) → w ≡ path_bytes p → w.bytes ≡ six_of p
unfolding path_bytes six_of
told_six p w e = ap (λ (x : PathBytes). x.bytes) e
