-- The items of a payload: tag, length, value; how the reader goes from one to the next, and what an opening reports of them. `ev` says
-- whether the payload is an event's. Assumes nothing.
use Rattle.std.specs.Prelude.{ℕ, zero, suc, ◌+◌, ◌-◌, ◌%◌, ◌≤◌, ◌<◌, Bool, true, false, not, ◌&&◌, ◌≡◌, List, [], ◌∷◌, Option, MatchOption, ltb, leb, eqb, length, get_or, take, drop}
use Rattle.base.specs.Pick.{pick}
use Rattle.base.specs.Numbers.{frame_long, payload_most}
use Rattle.base.specs.Answers.{Answer, value, number}
use Rattle.wire.specs.declared.run.Run.{Run}
use Rattle.fields.specs.Path.{all_even}
use Rattle.items.specs.declared.item.ItemKind.{ItemKind}
use Rattle.items.specs.declared.item.ItemKind.TheVariants.{Encrypted, Heartbeat, Proprietary}
use Rattle.items.specs.declared.item.Item.{Item}
use Rattle.items.specs.declared.item.ItemRead.{ItemRead}
use Rattle.items.specs.declared.item.ItemRead.TheVariants.{Kept, Skipped, Cut, End, Refused}
use Rattle.items.specs.declared.count.Opening.{Opening}
use Rattle.items.specs.declared.count.OpeningRead.{OpeningRead}
use Rattle.items.specs.declared.count.OpeningRead.TheVariants.{Opening as Counted, Refused as NoCount}

-- tag 0 of an event is a heartbeat, and of a command an ordinary item
abbrev pub is_beat : Bool → ℕ → Bool
is_beat ev t = pick ev (eqb t 0) false

-- a heartbeat that is no whole number of entries
unfoldable pub bad_beat : Bool → ℕ → ℕ → Bool
bad_beat ev t n = pick (is_beat ev t) (not (eqb (n % 6) 0)) false

-- ---- a payload as its pieces

-- each kept item's tag and value, each skipped heartbeat's value, and the tail that is cut
pub data Piece : Type 0 where
  kept : ℕ → List ℕ → Piece
  skipped : List ℕ → Piece
  cut : List ℕ → Piece

-- `pieces ev k s`: those of s after its first k bytes. At 0 a piece starts, and its length is what is passed over next, so that the
-- recursion goes byte by byte.
unfoldable pub pieces : Bool → ℕ → List ℕ → List Piece
pieces ev (suc k) [] = []
pieces ev (suc k) (x ∷ s) = pieces ev k s
pieces ev zero [] = []
pieces ev zero (t ∷ []) = cut (t ∷ []) ∷ []
pieces ev zero (t ∷ n ∷ s) =
    pick (leb n (length s))
    (pick (bad_beat ev t n) (skipped (take n s)) (kept t (take n s)) ∷ pieces ev n s)
    (cut (t ∷ n ∷ s) ∷ [])

-- ---- what an opening reports, each over the pieces

abbrev pub kept_items : List Piece → ℕ
kept_items [] = 0
kept_items (kept t v ∷ ps) = 1 + kept_items ps
kept_items (skipped v ∷ ps) = kept_items ps
kept_items (cut v ∷ ps) = kept_items ps

abbrev pub skipped_items : List Piece → ℕ
skipped_items [] = 0
skipped_items (kept t v ∷ ps) = skipped_items ps
skipped_items (skipped v ∷ ps) = 1 + skipped_items ps
skipped_items (cut v ∷ ps) = skipped_items ps

abbrev pub kept_bytes : List Piece → ℕ
kept_bytes [] = 0
kept_bytes (kept t v ∷ ps) = 2 + length v + kept_bytes ps
kept_bytes (skipped v ∷ ps) = kept_bytes ps
kept_bytes (cut v ∷ ps) = kept_bytes ps

abbrev pub skipped_bytes : List Piece → ℕ
skipped_bytes [] = 0
skipped_bytes (kept t v ∷ ps) = skipped_bytes ps
skipped_bytes (skipped v ∷ ps) = 2 + length v + skipped_bytes ps
skipped_bytes (cut v ∷ ps) = skipped_bytes ps

abbrev pub cut_bytes : List Piece → ℕ
cut_bytes [] = 0
cut_bytes (kept t v ∷ ps) = cut_bytes ps
cut_bytes (skipped v ∷ ps) = cut_bytes ps
cut_bytes (cut v ∷ ps) = length v + cut_bytes ps

-- the odd bits of a heartbeat's entries are 0; nothing is asked of any other item
abbrev pub kept_clean : Bool → ℕ → List ℕ → Bool
kept_clean ev t v = pick (is_beat ev t) (all_even v) true

-- nothing was skipped or cut, and each item that was kept is clean
abbrev pub is_clean : Bool → List Piece → Bool
is_clean ev [] = true
is_clean ev (kept t v ∷ ps) = kept_clean ev t v && is_clean ev ps
is_clean ev (skipped v ∷ ps) = false
is_clean ev (cut v ∷ ps) = false

unfoldable pub opening_of : Bool → List ℕ → Opening
opening_of ev s =
    record {
      kept = kept_items (pieces ev 0 s);
      skipped = skipped_items (pieces ev 0 s);
      kept_bytes = kept_bytes (pieces ev 0 s);
      skipped_bytes = skipped_bytes (pieces ev 0 s);
      cut_bytes = cut_bytes (pieces ev 0 s);
      clean = is_clean ev (pieces ev 0 s);
    }

abbrev pub nothing : Opening
nothing = record { kept = 0; skipped = 0; kept_bytes = 0; skipped_bytes = 0; cut_bytes = 0; clean = true }

-- of a bare payload: 5 where it is over 8,179 bytes
unfoldable pub counts_of : Bool → List ℕ → OpeningRead
counts_of ev s = pick (ltb payload_most (length s)) (NoCount frame_long) (Counted (opening_of ev s))

abbrev pub counts_say : OpeningRead → Answer Opening
counts_say (Counted o) = value o
counts_say (NoCount n) = number n

-- ---- one item at a place

unfoldable pub kind_of : Bool → ℕ → ItemKind
kind_of ev t = pick (is_beat ev t) Heartbeat Proprietary

-- a kind as a number, of items that are read and of those that a caller composes; a path in lists is a heartbeat that was not read
abbrev pub heartbeat_kind : ℕ
heartbeat_kind = 1

abbrev pub proprietary_kind : ℕ
proprietary_kind = 2

abbrev pub path_kind : ℕ
path_kind = 3

abbrev pub kind_code : ItemKind → ℕ
kind_code Encrypted = 0
kind_code Heartbeat = heartbeat_kind
kind_code Proprietary = proprietary_kind

abbrev pub item_of : Bool → List ℕ → ℕ → Item
item_of ev s at = record { kind = kind_of ev (get_or s at 0); tag = get_or s at 0; value = record { start = at + 2; len = get_or s (at + 1) 0 } }

-- all from a place on, which the end of a payload of n bytes cuts
abbrev pub tail_at : ℕ → ℕ → Run
tail_at n at = record { start = at; len = n - at }

abbrev pub cut_at : ℕ → ℕ → ItemRead
cut_at n at = Cut (tail_at n at) n

unfoldable pub item_at : Bool → List ℕ → ℕ → ItemRead
item_at ev s at =
    pick (leb (length s) at) (End (length s))
    (pick (ltb (length s - at) 2) (cut_at (length s) at)
    (pick (ltb (length s - at - 2) (get_or s (at + 1) 0)) (cut_at (length s) at)
    (pick (bad_beat ev (get_or s at 0) (get_or s (at + 1) 0))
    (Skipped (item_of ev s at) (at + 2 + get_or s (at + 1) 0))
    (Kept (item_of ev s at) (at + 2 + get_or s (at + 1) 0)))))

-- what the answer at a place says of the pieces from there
abbrev pub Turn : Bool → List ℕ → ℕ → ItemRead → Type 0
Turn ev s at (Kept i nx) =
    (i ≡ item_of ev s at) × (nx ≡ at + 2 + get_or s (at + 1) 0) × (nx ≤ length s)
    × (pieces ev 0 (drop at s) ≡ kept (get_or s at 0) (take (get_or s (at + 1) 0) (drop (at + 2) s)) ∷ pieces ev 0 (drop nx s))
Turn ev s at (Skipped i nx) =
    (i ≡ item_of ev s at) × (nx ≡ at + 2 + get_or s (at + 1) 0) × (nx ≤ length s)
    × (pieces ev 0 (drop at s) ≡ skipped (take (get_or s (at + 1) 0) (drop (at + 2) s)) ∷ pieces ev 0 (drop nx s))
Turn ev s at (Cut r nx) = (r ≡ tail_at (length s) at) × (nx ≡ length s) × (at < length s) × (pieces ev 0 (drop at s) ≡ cut (drop at s) ∷ [])
Turn ev s at (End nx) = (nx ≡ length s) × (length s ≤ at) × (pieces ev 0 (drop at s) ≡ [])
Turn ev s at (Refused n) = ⊥

-- of a bare payload: 5 where it is over 8,179 bytes
unfoldable pub bare_item_at : Bool → List ℕ → ℕ → ItemRead
bare_item_at ev s at = pick (ltb payload_most (length s)) (Refused frame_long) (item_at ev s at)

-- ---- from one item to the next

abbrev pub next_of : ItemRead → ℕ
next_of (Kept i nx) = nx
next_of (Skipped i nx) = nx
next_of (Cut r nx) = nx
next_of (End nx) = nx
next_of (Refused n) = 0

-- where n steps from a place lead
unfoldable pub walked_to : Bool → List ℕ → ℕ → ℕ → ℕ
walked_to ev s zero at = at
walked_to ev s (suc n) at = walked_to ev s n (next_of (item_at ev s at))

-- what an iterator at a place gives, and where it stands then: nothing more from the end on
abbrev pub goes_on_to : Bool → List ℕ → ℕ → Option ItemRead → Bool → List ℕ → ℕ → Type 0
goes_on_to ev s at r ev2 s2 at2 =
    (ev2 ≡ ev) × (s2 ≡ s) × MatchOption r ((length s ≤ at) × (at2 ≡ at)) (λ i. (at < length s) × (item_at ev s at ≡ i) × (at2 ≡ next_of i))

abbrev pub kept_before : ItemRead → List Item → List Item
kept_before (Kept i nx) is = i ∷ is
kept_before (Skipped i nx) is = is
kept_before (Cut r nx) is = is
kept_before (End nx) is = is
kept_before (Refused n) is = is

-- the items that n steps from a place keep; and, as there are no more steps than bytes, all that a payload keeps
unfoldable pub listed_by : Bool → List ℕ → ℕ → ℕ → List Item
listed_by ev s zero at = []
listed_by ev s (suc n) at = kept_before (item_at ev s at) (listed_by ev s n (next_of (item_at ev s at)))

unfoldable pub listed_items : Bool → List ℕ → List Item
listed_items ev s = listed_by ev s (length s) 0

-- ---- a sealed run as one item, and an item's type

abbrev pub sealed_item : Run → Item
sealed_item r = record { kind = Encrypted; tag = 0; value = r }

abbrev pub tag_unless_sealed : ItemKind → ℕ → ℕ
tag_unless_sealed Encrypted t = 0
tag_unless_sealed Heartbeat t = t
tag_unless_sealed Proprietary t = t

abbrev pub type_of : Item → ℕ
type_of i = tag_unless_sealed i.kind i.tag

-- ---- what the reader says: an item kept or skipped, the tail that is cut, or none from the end on; and the place behind it

pub data Found : Type 0 where
  kept_item : Item → ℕ → Found
  skipped_item : Item → ℕ → Found
  cut_tail : Run → ℕ → Found
  no_item : ℕ → Found

abbrev pub item_says : ItemRead → Answer Found
item_says (Kept i next) = value (kept_item i next)
item_says (Skipped i next) = value (skipped_item i next)
item_says (Cut r next) = value (cut_tail r next)
item_says (End next) = value (no_item next)
item_says (Refused n) = number n
