-- A content: where its payload lies, and what is written of it. Assumes nothing.
use Rattle.std.specs.Prelude.{ℕ, Bool, List, [], eqb, ℤ, length}
use Rattle.base.specs.Pick.{pick}
use Rattle.base.specs.Answers.{Writing, bytes, unless_refused}
use Rattle.wire.specs.Run.{run_refusal, run_bytes}
use Rattle.kept_items.specs.Kept.{open_bytes}
use Rattle.heartbeats.specs.Paths.{paths}
use Rattle.composed_items.specs.Composed.{Lists, kinds_refusal, verdict_of, composed_bytes}
use Rattle.contents.specs.declared.content.Held.{Held}
use Rattle.contents.specs.declared.content.Held.TheVariants.{Frame as InFrame, Work as InWork}
use Rattle.contents.specs.declared.content.Content.{Content}
use Rattle.contents.specs.declared.content.Content.TheVariants.{Empty, Sealed, Open, Items}

-- nothing behind the relay id is no content
abbrev pub content_of : ℕ → ℕ → Content
content_of start n = pick (eqb n 0) Empty (Sealed (record { start = start; len = n }))

-- ---- where a payload lies

abbrev pub held_in : Held → List ℕ → List ℕ → List ℕ
held_in InFrame f w = f
held_in InWork f w = w

unfoldable pub payload_of : Content → List ℕ → List ℕ → List ℕ
payload_of Empty f w = []
payload_of (Sealed r) f w = run_bytes f r
payload_of (Open h r) f w = run_bytes (held_in h f w) r
payload_of (Items n) f w = []

-- ---- what is written of it

-- all that is lent: the frame, the work buffer, and the lists that items are composed of, whose values lie in the work buffer
pub record Lent : Type 0 where
  pub frame : List ℕ
  pub lists : Lists

abbrev pub work : Lent → List ℕ
work l = l.lists.src

abbrev pub lent : List ℕ → List ℕ → List (List ℕ) → List (List ℕ) → List ℕ → List ℤ → List ℤ → Lent
lent f w kinds spans ids rssis snrs = record { frame = f; lists = record { kinds = kinds; spans = spans; entries = paths ids rssis snrs; src = w } }

-- a frame, and whatever else is lent with it
abbrev pub framed : List ℕ → Lists → Lent
framed s x = record { frame = s; lists = x }

-- 29 of composed items, by their kinds alone
unfoldable pub content_kinds : Bool → List (List ℕ) → List (List ℕ) → Content → ℕ
content_kinds ev kinds spans Empty = 0
content_kinds ev kinds spans (Sealed r) = 0
content_kinds ev kinds spans (Open h r) = 0
content_kinds ev kinds spans (Items n) = kinds_refusal ev kinds spans n

-- the first refusal, 0 for none: 29, 45, the first bad path entry, 19, 20
unfoldable pub content_refusal : Bool → Lent → Content → ℕ
content_refusal ev l Empty = 0
content_refusal ev l (Sealed r) = run_refusal (length l.frame) r
content_refusal ev l (Open h r) = run_refusal (length (held_in h l.frame (work l))) r
content_refusal ev l (Items n) = verdict_of ev l.lists n

-- a sealed run as it lies, and open items one after another
unfoldable pub content_bytes : Bool → Lent → Content → List ℕ
content_bytes ev l Empty = []
content_bytes ev l (Sealed r) = run_bytes l.frame r
content_bytes ev l (Open h r) = open_bytes ev (run_bytes (held_in h l.frame (work l)) r)
content_bytes ev l (Items n) = composed_bytes ev l.lists n

unfoldable pub content_wire : Bool → Lent → Content → Writing
content_wire ev l b = unless_refused (content_refusal ev l b) (bytes (content_bytes ev l b))
