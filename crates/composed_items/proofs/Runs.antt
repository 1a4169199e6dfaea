-- Laws of a value's part, and of an item's length and bytes. Assumes nothing.
use Prim.Native.Nat.{ℕ, ◌+◌, ◌*◌, ◌≤◌}
use native.Mathlib.Omega.{arith}
use mathlib.Core.Bool.{Bool, true, false}
use mathlib.Core.Path.{◌≡◌, ap, ◌∙◌}
use mathlib.Core.List.{List}
use lib.ListN.{length}
use Rattle.base.specs.Lists.{joined}
use Rattle.base.proofs.Lists.{imap_length}
use Rattle.wire.specs.Part.{part_of}
use Rattle.wire.specs.Run.{run_refusal, run_at}
use Rattle.wire.specs.declared.run.Run.{Run}
use Rattle.wire.proofs.Laws.Part.{part_length as length_of_part}
use Rattle.fields.specs.Path.{six_of}
use Rattle.heartbeats.specs.Paths.{path_count, path_run, held_of}
use Rattle.heartbeats.proofs.Runs.{held_le, path_length}
use Rattle.items.specs.Items.{is_beat}
use Rattle.kept_items.specs.Kept.{headed, fixed, item_bytes}
use Rattle.composed_items.specs.Composed.{Lists, is_path, value_of, item_wire}
use Rattle.composed_items.specs.declared.Composed.{Composed}

-- the part of a list is what is held of the run
module _ (s : List ℕ) (place len : ℕ) where
  pub part_length : length (part_of s place len) ≡ held_of (length s) place len
  unfolding held_of run_refusal
  part_length = length_of_part s place len

-- ---- how long an item is

-- no more is held than the length says
pub held_short : (k n place len : ℕ) (run : Run) → run ≡ run_at place len → n ≡ held_of k run.start run.len → n ≤ len
held_short k n place len run er en =
    let b : n ≡ held_of k place len = en ∙ ap (λ (r : Run). held_of k r.start r.len) er in
    let h = held_le k place len in
    omega arith

module _ (ev : Bool) (l : Lists) (it : Composed) (run : Run) (er : run ≡ run_at it.place it.len) where
  pub path_size : is_path ev it ≡ true → (k n : ℕ) → k ≡ path_count l.entries → n ≡ held_of k run.start run.len → 2 + 6 * n ≡ length (item_wire ev l it)
  unfolding item_wire value_of
  path_size t k n ek en =
      let a = path_length l.entries it.place it.len in
      let b : n ≡ held_of (path_count l.entries) it.place it.len = en ∙ ap (λ (r : Run). held_of k r.start r.len) er ∙ ap (λ (m : ℕ). held_of m it.place it.len) ek in
      rw t (omega arith)

  pub value_size : is_path ev it ≡ false → (n : ℕ) → n ≡ held_of (length l.src) run.start run.len → 2 + n ≡ length (item_wire ev l it)
  unfolding item_wire value_of
  value_size t n en =
      let a = part_length l.src it.place it.len in
      let b = imap_length (fixed (is_beat ev it.tag)) 0 (part_of l.src it.place it.len) in
      let d : n ≡ held_of (length l.src) it.place it.len = en ∙ ap (λ (r : Run). held_of (length l.src) r.start r.len) er in
      rw t (omega arith)

  -- and what it is
  pub value_wire : is_path ev it ≡ false → (v : List ℕ) (b : Bool) → b ≡ is_beat ev it.tag → v ≡ part_of l.src run.start run.len
      → item_wire ev l it ≡ item_bytes b it.tag v
  unfolding item_wire value_of item_bytes
  value_wire t v b eb q =
      let w : v ≡ part_of l.src it.place it.len = q ∙ ap (λ (r : Run). part_of l.src r.start r.len) er in
      rw (t, w, eb)

pub path_wire_lem : (ev : Bool) (l : Lists) (it : Composed) → is_path ev it ≡ true → (run : Run) → run ≡ run_at it.place it.len
    → item_wire ev l it ≡ headed 0 (joined six_of (path_run l.entries run.start run.len))
unfolding item_wire value_of
path_wire_lem ev l it t run er = rw (t, er)
