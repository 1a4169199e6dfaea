-- An item as it is written, and an open payload as it is written: its kept items one after another. Assumes nothing.
use Rattle.std.specs.Prelude.{ℕ, ◌%◌, Bool, List, [], ◌∷◌, ◌++◌, length}
use Rattle.base.specs.Pick.{pick}
use Rattle.base.specs.Lists.{imap}
use Rattle.fields.specs.Path.{entry_byte}
use Rattle.items.specs.Items.{is_beat, Piece, kept, skipped, cut, pieces}

-- tag, length and value
abbrev pub headed : ℕ → List ℕ → List ℕ
headed t v = t ∷ length v % 256 ∷ v

-- byte i of a value: of a heartbeat's entries as they are written
unfoldable pub fixed : Bool → ℕ → ℕ → ℕ
fixed beat i b = pick beat (entry_byte i b) b

unfoldable pub item_bytes : Bool → ℕ → List ℕ → List ℕ
item_bytes beat t v = headed t (imap (fixed beat) 0 v)

unfoldable pub kept_wire : Bool → List Piece → List ℕ
kept_wire ev [] = []
kept_wire ev (kept t v ∷ ps) = item_bytes (is_beat ev t) t v ++ kept_wire ev ps
kept_wire ev (skipped v ∷ ps) = kept_wire ev ps
kept_wire ev (cut v ∷ ps) = kept_wire ev ps

unfoldable pub open_bytes : Bool → List ℕ → List ℕ
open_bytes ev s = kept_wire ev (pieces ev 0 s)
