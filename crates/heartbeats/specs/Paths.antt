-- The entries of paths in three lent lists of numbers: as many as the shortest has. They are to be written, so no list has odd bits.
-- Assumes nothing.
use Rattle.std.specs.Prelude.{ℕ, min, List, [], eqb, ℤ, pos, length, get_or}
use Rattle.base.specs.Pick.{pick}
use Rattle.base.specs.Lists.{from}
use Rattle.wire.specs.Run.{run_at, run_refusal}
use Rattle.fields.specs.declared.path.RelayPath.{RelayPath}

pub record PathLists : Type 0 where
  pub ids : List ℕ
  pub rssis : List ℤ
  pub snrs : List ℤ

abbrev pub paths : List ℕ → List ℤ → List ℤ → PathLists
paths ids rssis snrs = record { ids = ids; rssis = rssis; snrs = snrs }

-- the shortest list counts
abbrev pub path_count : PathLists → ℕ
path_count l = min (length l.ids) (min (length l.rssis) (length l.snrs))

abbrev pub path_at : PathLists → ℕ → RelayPath
path_at l i = record { relay_id = get_or l.ids i 0; rssi = get_or l.rssis i (pos 0); snr = get_or l.snrs i (pos 0); odd = 0 }

-- all of them
unfoldable pub paths_in : PathLists → List RelayPath
paths_in l = from (path_count l) 0 (path_at l)

-- n entries from a place on, and none where they run outside
unfoldable pub path_run : PathLists → ℕ → ℕ → List RelayPath
path_run l place n = pick (eqb (run_refusal (path_count l) (run_at place n)) 0) (from n place (path_at l)) []

-- how much of a run lies in a list of n: all, or nothing where it runs outside
unfoldable pub held_of : ℕ → ℕ → ℕ → ℕ
held_of n place len = pick (eqb (run_refusal n (run_at place len)) 0) len 0
