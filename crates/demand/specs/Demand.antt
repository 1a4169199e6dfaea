-- The words in which the hop edit's promises are said: which bits it may change, what an opened frame has to keep, and the last accepted of
-- several edits. Assumes nothing.
use Rattle.std.specs.Prelude.{ℕ, ◌+◌, ◌/◌, ◌%◌, ◌^◌, Bool, true, false, ◌&&◌, ◌||◌, List, [], ◌∷◌, ltb, leb, eqb, length, get_or}
use Rattle.std.proofs.Math.Option.{Option, none, some}
use Rattle.base.specs.Pick.{pick}
use Rattle.base.specs.Answers.{Writing, bytes, refused}
use Rattle.base.specs.Blocks.{Block}
use Rattle.fips197.specs.Aes.{aes}
use Rattle.items.specs.Items.{Piece, pieces}
use Rattle.contents.specs.Content.{payload_of}
use Rattle.packets.specs.Read.{carrying, even_payload}
use Rattle.packets.specs.declared.mesh.Payload.{Payload}
use Rattle.packets.specs.declared.mesh.Payload.TheVariants.{Uplink, Downlink, Event, Command}
use Rattle.packets.specs.declared.mesh.MeshPacket.{MeshPacket}
use Rattle.sealing.specs.Mesh.{mesh_decrypted, mesh_work, mesh_decoded}
use Rattle.sealing.specs.declared.mesh.MeshOpened.{MeshOpened}
use Rattle.sealing.specs.declared.mesh.MeshOpened.TheVariants.{Opened, AlreadyOpen, Refused}
use Rattle.hops.specs.Hops.{hop_edit, leaves}

-- ---- bits

-- bit i of byte j, 0 the lowest
abbrev pub bit_of : List ℕ → ℕ → ℕ → ℕ
bit_of s j i = get_or s j 0 / 2 ^ i % 2

-- the three bits of the count, the four bytes of the MIC, and the odd bits of an uplink's snr byte, which is byte 4
unfoldable pub may_differ : List ℕ → ℕ → ℕ → Bool
may_differ s j i = (eqb j 0 && ltb i 3) || (leb (length s) (j + 4) || (eqb (get_or s 0 0 / 8 % 4) 0 && (eqb j 4 && leb 6 i)))

-- ---- one edit, and several

-- any count, and a signing key of 16 bytes
pub record Edit : Type 0 where
  pub count : ℕ
  pub key : List ℕ
  pub block : Block key

-- what it answers, and what it leaves in the buffer
abbrev pub edited : List ℕ → Edit → Writing
edited s e = hop_edit (aes e.key) s e.count

abbrev pub after : List ℕ → Edit → List ℕ
after s e = leaves (edited s e) s

abbrev pub accepts : Writing → Bool
accepts (bytes w) = true
accepts (refused n) = false

-- of edits made one after the other in the buffer the last that was accepted, or `last` where none was
unfoldable pub last_accepted : List ℕ → Option Edit → List Edit → Option Edit
last_accepted s last [] = last
last_accepted s last (e ∷ es) = last_accepted (after s e) (pick (accepts (edited s e)) (some e) last) es

-- the buffer after that edit alone, if there was one
abbrev pub after_only : List ℕ → Option Edit → List ℕ
after_only s none = s
after_only s (some e) = after s e

-- ---- opening

-- an opening's answer, its packet under p's header and MIC and without odd bits
abbrev pub opened_under : MeshPacket → MeshOpened → MeshOpened
opened_under p (Opened q o) = Opened (carrying p (even_payload q.payload)) o
opened_under p AlreadyOpen = AlreadyOpen
opened_under p (Refused n) = Refused n

-- the bytes of a payload, as it lies in the frame f or the work buffer w
abbrev pub bytes_in : Payload → List ℕ → List ℕ → List ℕ
bytes_in (Uplink u) f w = []
bytes_in (Downlink u) f w = []
bytes_in (Event u) f w = payload_of u.events f w
bytes_in (Command u) f w = payload_of u.commands f w

abbrev pub is_event : Payload → Bool
is_event (Uplink u) = false
is_event (Downlink u) = false
is_event (Event u) = true
is_event (Command u) = false

-- the items that are read from them: kept, skipped and cut
abbrev pub pieces_in : Payload → List ℕ → List ℕ → List Piece
pieces_in q f w = pieces (is_event q) 0 (bytes_in q f w)

-- either of these, of what an opening answers
abbrev pub of_opened : {A : Type 0} → (Payload → List ℕ → List ℕ → List A) → MeshOpened → List ℕ → List ℕ → List A
of_opened g (Opened q o) f w = g q.payload f w
of_opened g AlreadyOpen f w = []
of_opened g (Refused n) f w = []

-- of a packet in the frame f that is decrypted into the work buffer w, and of one that is decoded
abbrev pub decrypted : {A : Type 0} → (Payload → List ℕ → List ℕ → List A) → List ℕ → MeshPacket → List ℕ → List ℕ → List A
decrypted g key p f w = of_opened g (mesh_decrypted key p p.payload f w) f (mesh_work key p.payload f w)

abbrev pub decoded : {A : Type 0} → (Payload → List ℕ → List ℕ → List A) → MeshPacket → List ℕ → List ℕ → List A
decoded g p f w = of_opened g (mesh_decoded p p.payload f w) f w
