-- A heartbeat's value: a path of entries, six bytes each. Assumes nothing.
use Rattle.std.specs.Prelude.{ℕ, zero, suc, ◌+◌, ◌*◌, ◌/◌, ◌%◌, ◌<◌, List, [], ◌∷◌, ◌++◌, ltb, eqb, pos, length, get_or, drop}
use Rattle.base.specs.Pick.{pick}
use Rattle.base.specs.Numbers.{item_long, heartbeat_length, output_short, outside, item_most, path_most}
use Rattle.base.specs.Lists.{or_else, first_of, joined}
use Rattle.base.specs.Answers.{Answer, value, number, Writing, bytes, refused, unless_refused}
use Rattle.fields.specs.Path.{path_of, bad_entry, six_of}
use Rattle.fields.specs.declared.path.RelayPath.{RelayPath}
use Rattle.heartbeats.specs.declared.heartbeat.HeartbeatPayload.{HeartbeatPayload}
use Rattle.heartbeats.specs.declared.heartbeat.HeartbeatRead.{HeartbeatRead}
use Rattle.heartbeats.specs.declared.heartbeat.HeartbeatRead.TheVariants.{Heartbeat, Refused as NoBeat}
use Rattle.heartbeats.specs.declared.heartbeat.PathRead.{PathRead}
use Rattle.heartbeats.specs.declared.heartbeat.PathRead.TheVariants.{Entry, Refused as NoEntry}

-- ---- reading

-- the six bytes of v from place k on
abbrev pub six_at : List ℕ → ℕ → List ℕ
six_at v k = get_or v k 0 ∷ get_or v (k + 1) 0 ∷ get_or v (k + 2) 0 ∷ get_or v (k + 3) 0 ∷ get_or v (k + 4) 0 ∷ get_or v (k + 5) 0 ∷ []

unfoldable pub entry_at : List ℕ → ℕ → RelayPath
entry_at v i = path_of (six_at v (i * 6))

-- the first n entries, and all of them
unfoldable pub entries : List ℕ → ℕ → List RelayPath
entries v zero = []
entries v (suc n) = entries v n ++ (entry_at v n ∷ [])

unfoldable pub paths_of : List ℕ → List RelayPath
paths_of v = entries v (length v / 6)

-- 19, 20: a value of this length is too long, or no whole number of entries; 0 for none. A value so refused has no entries.
abbrev pub length_refusal : ℕ → ℕ
length_refusal len = pick (ltb item_most len) item_long (pick (ltb 0 (len % 6)) heartbeat_length 0)

-- then 21: more entries than the list has places
unfoldable pub beat_refusal : ℕ → ℕ → ℕ
beat_refusal len places = or_else (length_refusal len) (pick (ltb places (len / 6)) output_short 0)

-- or 45: entry i is not there
unfoldable pub entry_refusal : ℕ → ℕ → ℕ
entry_refusal len i = or_else (length_refusal len) (pick (ltb i (len / 6)) 0 outside)

-- what is answered, and what the list holds after it
unfoldable pub beat_of : List ℕ → ℕ → HeartbeatRead
beat_of v places =
    pick (eqb (beat_refusal (length v) places) 0)
    (Heartbeat (record { entries = length v / 6 }))
    (NoBeat (beat_refusal (length v) places))

unfoldable pub path_after : List ℕ → List RelayPath → List RelayPath
path_after v ys = pick (eqb (beat_refusal (length v) (length ys)) 0) (paths_of v ++ drop (length v / 6) ys) ys

-- entry i alone
unfoldable pub entry_read : List ℕ → ℕ → PathRead
entry_read v i =
    pick (eqb (entry_refusal (length v) i) 0)
    (Entry (entry_at v i))
    (NoEntry (entry_refusal (length v) i))

-- ---- writing

-- the first bad entry's number, 19 for more than 42 entries, or the bytes of all entries, one behind the other
unfoldable pub beat_wire : List RelayPath → Writing
beat_wire ps = unless_refused (first_of bad_entry ps) (pick (ltb path_most (length ps)) (refused item_long) (bytes (joined six_of ps)))

-- ---- what is asked of a path that reads back: each relay id is four bytes

abbrev pub no_path : RelayPath
no_path = record { relay_id = 0; rssi = pos 0; snr = pos 0; odd = 0 }

abbrev pub FourByteIds : List RelayPath → Type 0
FourByteIds ps = (i : ℕ) → (get_or ps i no_path).relay_id < 4294967296

-- ---- the refusal's number, or the value, of each answer

abbrev pub beat_says : HeartbeatRead → Answer HeartbeatPayload
beat_says (Heartbeat h) = value h
beat_says (NoBeat n) = number n

abbrev pub path_says : PathRead → Answer RelayPath
path_says (Entry p) = value p
path_says (NoEntry n) = number n
