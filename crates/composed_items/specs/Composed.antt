-- Items that a caller composes, in lent lists: the first refusal over all of them, pass by pass, and their bytes. Assumes nothing.
use Rattle.std.specs.Prelude.{ℕ, min, Bool, false, List, [], ◌∷◌, map, ltb, eqb, ℤ, length, get_or}
use Rattle.base.specs.Pick.{pick}
use Rattle.base.specs.Lists.{from, imap, or_else, first_of, joined}
use Rattle.base.specs.Numbers.{type_large, item_long, heartbeat_length, outside, item_most, path_most}
use Rattle.base.specs.Answers.{Writing, bytes, unless_refused}
use Rattle.wire.specs.Part.{part_of}
use Rattle.wire.specs.Run.{run_at, run_refusal}
use Rattle.fields.specs.Path.{bad_entry, six_of}
use Rattle.heartbeats.specs.Paths.{PathLists, paths, path_count, path_run}
use Rattle.items.specs.Items.{is_beat, bad_beat, heartbeat_kind, proprietary_kind, path_kind, kind_code, listed_items}
use Rattle.items.specs.declared.item.Item.{Item}
use Rattle.kept_items.specs.Kept.{headed, fixed}
use Rattle.composed_items.specs.declared.Composed.{Composed}

-- what is lent: of each item kind and tag, and place and length; the entries of paths in three lists; and the bytes of values
pub record Lists : Type 0 where
  pub kinds : List (List ℕ)
  pub spans : List (List ℕ)
  pub entries : PathLists
  pub src : List ℕ

abbrev pub lists : List (List ℕ) → List (List ℕ) → List ℕ → List ℤ → List ℤ → List ℕ → Lists
lists kinds spans ids rssis snrs src = record { kinds = kinds; spans = spans; entries = paths ids rssis snrs; src = src }

-- ---- the items

abbrev pub item_count : Lists → ℕ
item_count l = min (length l.kinds) (length l.spans)

-- the tag that an item is written with: a heartbeat's and a path's is 0
unfoldable pub tag_of : ℕ → ℕ → ℕ
tag_of kind tag = pick (eqb kind proprietary_kind) tag 0

abbrev pub item_in : Lists → ℕ → Composed
item_in l i =
    record {
      kind = get_or (get_or l.kinds i []) 0 0;
      tag = tag_of (get_or (get_or l.kinds i []) 0 0) (get_or (get_or l.kinds i []) 1 0);
      place = get_or (get_or l.spans i []) 0 0;
      len = get_or (get_or l.spans i []) 1 0;
    }

abbrev pub items_in : Lists → ℕ → List Composed
items_in l n = from (min n (item_count l)) 0 (item_in l)

-- a path of the three lists; a command has none
abbrev pub is_path : Bool → Composed → Bool
is_path ev it = pick ev (eqb it.kind path_kind) false

-- ---- what is wrong with one item, in each pass: 29, 45, the first bad path entry, 19, 20

-- a kind that is none, and a heartbeat or a path in a command
unfoldable pub bad_kind : Bool → Composed → ℕ
bad_kind ev it =
    pick (eqb it.kind proprietary_kind) 0
    (pick ev (pick (eqb it.kind heartbeat_kind) 0 (pick (eqb it.kind path_kind) 0 type_large)) type_large)

unfoldable pub outside_of : Bool → Lists → Composed → ℕ
outside_of ev l it = run_refusal (pick (is_path ev it) (path_count l.entries) (length l.src)) (run_at it.place it.len)

unfoldable pub bad_path : Bool → Lists → Composed → ℕ
bad_path ev l it = pick (is_path ev it) (first_of bad_entry (path_run l.entries it.place it.len)) 0

unfoldable pub long_of : Bool → Composed → ℕ
long_of ev it = pick (ltb (pick (is_path ev it) path_most item_most) it.len) item_long 0

-- a heartbeat in bytes whose length is no multiple of 6
unfoldable pub uneven_of : Bool → Composed → ℕ
uneven_of ev it = pick (is_path ev it) 0 (pick (bad_beat ev it.tag it.len) heartbeat_length 0)

-- 29 over all items: a frame's writer asks it before all else
unfoldable pub kinds_refusal : Bool → List (List ℕ) → List (List ℕ) → ℕ → ℕ
kinds_refusal ev kinds spans n = first_of (bad_kind ev) (items_in (lists kinds spans [] [] [] []) n)

-- over all items, pass by pass; and 45 after the kinds where there are not as many
unfoldable pub verdict_of : Bool → Lists → ℕ → ℕ
verdict_of ev l n =
    or_else (kinds_refusal ev l.kinds l.spans n)
    (or_else (pick (ltb (item_count l) n) outside 0)
    (or_else (first_of (outside_of ev l) (items_in l n))
    (or_else (first_of (bad_path ev l) (items_in l n))
    (or_else (first_of (long_of ev) (items_in l n)) (first_of (uneven_of ev) (items_in l n))))))

-- ---- their bytes

-- a path's entries, or the bytes of a value with a heartbeat's odd bits cleared
unfoldable pub value_of : Bool → Lists → Composed → List ℕ
value_of ev l it =
    pick (is_path ev it) (joined six_of (path_run l.entries it.place it.len))
    (imap (fixed (is_beat ev it.tag)) 0 (part_of l.src it.place it.len))

unfoldable pub item_wire : Bool → Lists → Composed → List ℕ
item_wire ev l it = headed (pick (is_path ev it) 0 it.tag) (value_of ev l it)

unfoldable pub composed_bytes : Bool → Lists → ℕ → List ℕ
composed_bytes ev l n = joined (item_wire ev l) (items_in l n)

-- ---- items that were read, lent back as they were read: kind and tag, and the place of the value in the payload

abbrev pub kind_and_tag : Item → List ℕ
kind_and_tag i = kind_code i.kind ∷ i.tag ∷ []

abbrev pub place_and_length : Item → List ℕ
place_and_length i = i.value.start ∷ i.value.len ∷ []

unfoldable pub lent_back : Bool → List ℕ → Lists
lent_back ev s = lists (map kind_and_tag (listed_items ev s)) (map place_and_length (listed_items ev s)) [] [] [] s

-- ---- what is written of n composed items, or the first refusal
unfoldable pub composed_wire : Bool → Lists → ℕ → Writing
composed_wire ev l n = unless_refused (verdict_of ev l n) (bytes (composed_bytes ev l n))
