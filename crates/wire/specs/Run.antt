-- A run of bytes in a lent slice. Assumes nothing.
use Rattle.std.specs.Prelude.{ℕ, List}
use Rattle.wire.specs.Part.{reach_of, reach_number, part_of}
use Rattle.wire.specs.declared.run.Run.{Run}

abbrev pub run_at : ℕ → ℕ → Run
run_at start len = record { start = start; len = len }

-- 45 where it runs outside a slice of n bytes, and otherwise 0
unfoldable pub run_refusal : ℕ → Run → ℕ
run_refusal n r = reach_number (reach_of n r.start r.len)

abbrev pub run_bytes : List ℕ → Run → List ℕ
run_bytes s r = part_of s r.start r.len
