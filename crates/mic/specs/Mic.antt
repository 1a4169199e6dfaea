-- Signing and validating. The MIC is four bytes of a CMAC, as one number, over what would be written before it (10.1 of the rules).
-- Signing refuses in the writing order without 27 and 21: 29, 6, 7, 45, body fields, 19, 20, 5. Validating: 29, 27, then as signing. Over
-- any block cipher E. Assumes nothing.
use Rattle.std.specs.Prelude.{ℕ, Bool, true, false, List, ltb, eqb, length, take}
use Rattle.base.specs.Pick.{pick}
use Rattle.base.specs.Numbers.{frame_long, mic_missing, message_most}
use Rattle.base.specs.Answers.{Answer, value, number, Writing, bytes, refused}
use Rattle.wire.specs.Number.{be_of}
use Rattle.cmac_chain.specs.Cmac.{tag}
use Rattle.contents.specs.Content.{Lent}
use Rattle.packets.specs.Write.{kinds_in, message_of}
use Rattle.packets.specs.declared.mesh.MeshPacket.{MeshPacket}
use Rattle.packets.specs.declared.mesh.MeshRead.{MeshRead}
use Rattle.packets.specs.declared.mesh.MeshRead.TheVariants.{Mesh, Refused as NotSigned}
use Rattle.mic.specs.declared.Validated.{Validated}
use Rattle.mic.specs.declared.Validated.TheVariants.{Valid, Invalid, Refused}

unfoldable pub mic_of : (List ℕ → List ℕ) → List ℕ → ℕ
mic_of E w = be_of (take 4 (tag E w))

-- header byte and body, of which four bytes more make a frame
unfoldable pub fitting : Writing → Writing
fitting (refused n) = refused n
fitting (bytes w) = pick (ltb message_most (length w)) (refused frame_long) (bytes w)

-- what is signed, or the first refusal
unfoldable pub signed_of : Lent → MeshPacket → Writing
signed_of l p = fitting (message_of l p)

-- the packet with a MIC
abbrev pub carrying_mic : MeshPacket → ℕ → MeshPacket
carrying_mic p m = record { mhdr = p.mhdr; payload = p.payload; has_mic = true; mic = m }

abbrev pub signed_by : (List ℕ → List ℕ) → MeshPacket → Writing → MeshRead
signed_by E p (refused n) = NotSigned n
signed_by E p (bytes w) = Mesh (carrying_mic p (mic_of E w))

unfoldable pub set_mic : (List ℕ → List ℕ) → Lent → MeshPacket → MeshRead
set_mic E l p = signed_by E p (signed_of l p)

-- a MIC, beside that of what is signed
abbrev pub compared_by : (List ℕ → List ℕ) → ℕ → Writing → Validated
compared_by E m (refused n) = Refused n
compared_by E m (bytes w) = pick (eqb m (mic_of E w)) Valid Invalid

unfoldable pub validate_mic : (List ℕ → List ℕ) → Lent → MeshPacket → Validated
validate_mic E l p =
    pick (eqb (kinds_in l p) 0)
    (pick p.has_mic (compared_by E p.mic (signed_of l p)) (Refused mic_missing))
    (Refused (kinds_in l p))

-- the refusal's number, or whether it is valid
abbrev pub valid_says : Validated → Answer Bool
valid_says Valid = value true
valid_says Invalid = value false
valid_says (Refused n) = number n
