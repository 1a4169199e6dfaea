-- Opening a content: `decrypt`, which takes the key stream off into the work buffer, and `decode`, which reads the frame as it stands.
-- Assumes nothing.
use Rattle.std.specs.Prelude.{ℕ, Bool, List, ltb, eqb, length}
use Rattle.base.specs.Pick.{pick}
use Rattle.base.specs.Numbers.{frame_long, output_short, open_many, open_one, payload_most}
use Rattle.base.specs.Answers.{Writing, bytes, refused, out_of, Answer, value, number, unless_refused}
use Rattle.wire.specs.Run.{run_refusal, run_bytes}
use Rattle.wire.specs.declared.run.Run.{Run}
use Rattle.items.specs.Items.{opening_of, nothing}
use Rattle.items.specs.declared.count.Opening.{Opening}
use Rattle.key_stream.specs.Stream.{sealed_of}
use Rattle.contents.specs.Content.{held_in}
use Rattle.contents.specs.declared.content.Held.{Held}
use Rattle.contents.specs.declared.content.Held.TheVariants.{Frame as InFrame, Work as InWork}
use Rattle.contents.specs.declared.content.Content.{Content}
use Rattle.contents.specs.declared.content.Content.TheVariants.{Empty, Sealed, Open, Items}
use Rattle.sealing.specs.declared.content.Opened.{Opened}
use Rattle.sealing.specs.declared.content.Opened.TheVariants.{Opened as Now, AlreadyOpen, Refused}

abbrev pub refused_or : ℕ → Opened → Opened
refused_or n x = pick (eqb n 0) x (Refused n)

-- a payload that has no items: nothing is reported
abbrev pub nothing_in : Opened
nothing_in = Now Empty nothing

-- one that keeps nothing is empty from now on
abbrev pub opened_as : Held → Run → Opening → Opened
opened_as h r o = Now (pick (eqb o.kept 0) Empty (Open h r)) o

-- 22 and 23 count the items that are open
abbrev pub open_refusal : ℕ → ℕ
open_refusal k = pick (ltb 1 k) open_many (pick (eqb k 1) open_one 0)

-- the clear bytes of a sealed run, or 45, 5
abbrev pub seal_wire : List ℕ → Bool → ℕ → ℕ → List ℕ → Run → Writing
seal_wire key ev relay time f r = unless_refused (run_refusal (length f) r) (sealed_of key ev relay time (run_bytes f r))

-- into the work buffer, or 21
unfoldable pub opened_by : Bool → Writing → List ℕ → Opened
opened_by ev (refused n) w = Refused n
opened_by ev (bytes c) w = pick (ltb (length w) (length c)) (Refused output_short) (opened_as InWork (record { start = 0; len = length c }) (opening_of ev c))

-- read in the frame as it stands, or 45, 5
unfoldable pub read_sealed : Bool → List ℕ → Run → Opened
read_sealed ev f r =
    refused_or (run_refusal (length f) r) (pick (ltb payload_most r.len) (Refused frame_long) (opened_as InFrame r (opening_of ev (run_bytes f r))))

-- open items are not opened again, unless there are none
abbrev pub refuse_open : ℕ → ℕ → Opened
refuse_open kept outside = refused_or (open_refusal kept) (refused_or outside nothing_in)

-- and are only told to be open; where they lie outside nobody can say that there are none
abbrev pub tell_open : ℕ → ℕ → Opened
tell_open kept outside = pick (eqb outside 0) (pick (eqb kept 0) nothing_in AlreadyOpen) AlreadyOpen

unfoldable pub decrypt_of : List ℕ → Bool → ℕ → ℕ → Content → List ℕ → List ℕ → Opened
decrypt_of key ev relay time Empty f w = nothing_in
decrypt_of key ev relay time (Sealed r) f w = opened_by ev (seal_wire key ev relay time f r) w
decrypt_of key ev relay time (Open h r) f w =
    refuse_open (opening_of ev (run_bytes (held_in h f w) r)).kept (run_refusal (length (held_in h f w)) r)
decrypt_of key ev relay time (Items n) f w = refuse_open n 0

-- what the work buffer holds then
unfoldable pub work_after : List ℕ → Bool → ℕ → ℕ → Content → List ℕ → List ℕ → List ℕ
work_after key ev relay time Empty f w = w
work_after key ev relay time (Sealed r) f w = out_of (seal_wire key ev relay time f r) w
work_after key ev relay time (Open h r) f w = w
work_after key ev relay time (Items n) f w = w

unfoldable pub decode_of : Bool → Content → List ℕ → List ℕ → Opened
decode_of ev Empty f w = nothing_in
decode_of ev (Sealed r) f w = read_sealed ev f r
decode_of ev (Open h r) f w = tell_open (opening_of ev (run_bytes (held_in h f w) r)).kept (run_refusal (length (held_in h f w)) r)
decode_of ev (Items n) f w = tell_open n 0

-- ---- what an opening says: what there is from now on, and what was in it; or only that it was open before

pub data Told (A : Type 0) : Type 0 where
  told : A → Opening → Told A
  was_open : Told A

abbrev pub opened_says : Opened → Answer (Told Content)
opened_says (Now b o) = value (told b o)
opened_says AlreadyOpen = value was_open
opened_says (Refused n) = number n
