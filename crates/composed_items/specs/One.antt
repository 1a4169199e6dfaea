-- One item alone, as it is written, or the first refusal. Assumes nothing.
use Rattle.std.specs.Prelude.{ℕ, Bool, true, false, not, List, ltb, eqb, length}
use Rattle.base.specs.Pick.{pick}
use Rattle.base.specs.Numbers.{frame_long, type_large, item_long, heartbeat_length, payload_most, item_most}
use Rattle.base.specs.Answers.{Writing, bytes, refused, unless_refused}
use Rattle.wire.specs.Run.{run_refusal, run_bytes}
use Rattle.wire.specs.declared.run.Run.{Run}
use Rattle.items.specs.Items.{is_beat, bad_beat, heartbeat_kind, proprietary_kind}
use Rattle.items.specs.declared.item.Item.{Item}
use Rattle.items.specs.declared.item.ItemKind.{ItemKind}
use Rattle.items.specs.declared.item.ItemKind.TheVariants.{Encrypted, Heartbeat, Proprietary}
use Rattle.kept_items.specs.Kept.{item_bytes}
use Rattle.composed_items.specs.Composed.{tag_of}

-- ---- of a kind, a tag and a value in bytes

-- no kind of a value in bytes; a command has no heartbeat, and a path's entries are in lists
unfoldable pub strange_kind : Bool → ℕ → Bool
strange_kind ev kind = pick (eqb kind proprietary_kind) false (pick ev (not (eqb kind heartbeat_kind)) true)

-- 29, 19 or 20 of a value of n bytes, 0 for none
unfoldable pub one_refusal : Bool → ℕ → ℕ → ℕ → ℕ
one_refusal ev kind tag n =
    pick (strange_kind ev kind) type_large
    (pick (ltb item_most n) item_long
    (pick (bad_beat ev (tag_of kind tag) n) heartbeat_length 0))

-- tag, length and value, a heartbeat's odd bits cleared
unfoldable pub one_wire : Bool → ℕ → ℕ → List ℕ → Writing
one_wire ev kind tag v =
    unless_refused (one_refusal ev kind tag (length v)) (bytes (item_bytes (is_beat ev (tag_of kind tag)) (tag_of kind tag) v))

-- ---- as the reader of items answers it: its value is a run of a lent slice

-- a sealed run as it lies: 45, and 5 where no frame holds it
unfoldable pub sealed_wire : List ℕ → Run → Writing
sealed_wire s r =
    unless_refused (run_refusal (length s) r)
    (pick (ltb payload_most (length (run_bytes s r))) (refused frame_long) (bytes (run_bytes s r)))

-- 45 comes behind the kind, and before all else
unfoldable pub encoded_in : Bool → ℕ → ℕ → Run → List ℕ → Writing
encoded_in ev kind tag r s =
    pick (strange_kind ev kind) (refused type_large)
    (unless_refused (run_refusal (length s) r) (one_wire ev kind tag (run_bytes s r)))

abbrev pub encoded_by : Bool → ItemKind → ℕ → Run → List ℕ → Writing
encoded_by ev Encrypted tag r s = sealed_wire s r
encoded_by ev Heartbeat tag r s = encoded_in ev heartbeat_kind tag r s
encoded_by ev Proprietary tag r s = encoded_in ev proprietary_kind tag r s

unfoldable pub encoded_of : Bool → Item → List ℕ → Writing
encoded_of ev i s = encoded_by ev i.kind i.tag i.value s
