-- Duplicate records, and the cache of the last of them, a list whose oldest record comes first. Assumes nothing.
use Rattle.std.specs.Prelude.{ℕ, ◌+◌, ◌-◌, ◌*◌, ◌/◌, ◌%◌, Bool, true, false, ◌&&◌, ◌||◌, List, [], ◌∷◌, ◌++◌, ltb, eqb, length, get_or, drop}
use Rattle.base.specs.Pick.{pick}
use Rattle.base.specs.Answers.{Answer, value, number}
use Rattle.fields.specs.Header.{code_of}
use Rattle.fields.specs.declared.header.PayloadType.{PayloadType}
use Rattle.fields.specs.declared.header.PayloadType.TheVariants.{Uplink, Downlink, Event, Command}
use Rattle.packets.specs.declared.mesh.MeshPacket.{MeshPacket}
use Rattle.packets.specs.declared.mesh.Payload.{Payload}
use Rattle.packets.specs.declared.mesh.Payload.TheVariants as payload
use Rattle.cache.specs.declared.record.PayloadCache.{PayloadCache}
use Rattle.cache.specs.declared.ring.CacheAnswer.{CacheAnswer}
use Rattle.cache.specs.declared.ring.CacheAnswer.TheVariants.{New, Seen, Refused}

-- ---- records

-- type, uplink id, timestamp, relay id
abbrev pub rec : PayloadType → ℕ → ℕ → ℕ → PayloadCache
rec t u s i = record { p_type = t; uplink_id = u; timestamp = s; relay_id = i }

-- 12.1: an event and a command have no id, an uplink and a downlink no timestamp
abbrev pub record_by : PayloadType → Payload → PayloadCache
record_by t (payload.Uplink v) = rec t v.metadata.uplink_id 0 v.relay_id
record_by t (payload.Downlink v) = rec t v.metadata.uplink_id 0 v.relay_id
record_by t (payload.Event v) = rec t 0 v.timestamp v.relay_id
record_by t (payload.Command v) = rec t 0 v.timestamp v.relay_id

unfoldable pub record_of : MeshPacket → PayloadCache
record_of p = record_by p.mhdr.payload_type p.payload

unfoldable pub same_record : PayloadCache → PayloadCache → Bool
same_record a b =
    eqb (code_of a.p_type) (code_of b.p_type) && eqb a.uplink_id b.uplink_id
    && eqb a.timestamp b.timestamp && eqb a.relay_id b.relay_id

unfoldable pub has : List PayloadCache → PayloadCache → Bool
has [] r = false
has (x ∷ xs) r = same_record x r || has xs r

-- ---- a record as three words: type and uplink id, timestamp, relay id

abbrev pub head_word : PayloadCache → ℕ
head_word r = code_of r.p_type * 65536 + r.uplink_id

unfoldable pub pack_of : PayloadCache → List ℕ
pack_of r = head_word r ∷ r.timestamp ∷ r.relay_id ∷ []

abbrev pub type_by_code : ℕ → PayloadType
type_by_code n = pick (eqb n 0) Uplink (pick (eqb n 1) Downlink (pick (eqb n 2) Event Command))

unfoldable pub unpack_of : List ℕ → PayloadCache
unpack_of w = rec (type_by_code (get_or w 0 0 / 65536 % 4)) (get_or w 0 0 % 65536) (get_or w 1 0) (get_or w 2 0)

-- ---- the last n records, oldest first

-- r behind l, whose oldest leaves where it has n
unfoldable pub push : ℕ → List PayloadCache → PayloadCache → List PayloadCache
push n l r = pick (ltb (length l) n) l (drop 1 l) ++ (r ∷ [])

-- the answer, and the list from now on: where the record is there, the list stays
unfoldable pub step : ℕ → List PayloadCache → PayloadCache → CacheAnswer × List PayloadCache
step n l r = pick (has l r) (Seen, l) (New, push n l r)

-- the answers to records that are added one after the other
unfoldable pub answers : ℕ → List PayloadCache → List PayloadCache → List CacheAnswer
answers n l [] = []
answers n l (r ∷ rs) = (step n l r).0 ∷ answers n (step n l r).1 rs

-- the same as 12.3 has it, over all records that were ever added: a hit is one of the last n of them
abbrev pub last_of : ℕ → List PayloadCache → List PayloadCache
last_of n l = drop (length l - n) l

unfoldable pub answers_last : ℕ → List PayloadCache → List PayloadCache → List CacheAnswer
answers_last n all [] = []
answers_last n all (r ∷ rs) = pick (has (last_of n all) r) (Seen ∷ answers_last n all rs) (New ∷ answers_last n (all ++ (r ∷ [])) rs)

-- ---- the refusal's number, or the value, of each answer: yes is a new record

abbrev pub add_says : CacheAnswer → Answer Bool
add_says New = value true
add_says Seen = value false
add_says (Refused n) = number n
