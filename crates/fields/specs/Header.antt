-- The header byte: 111, two bits of type, three bits of hop count minus 1. Assumes nothing.
use Rattle.std.specs.Prelude.{ℕ, ◌+◌, ◌-◌, ◌*◌, ◌/◌, ◌%◌, ltb, eqb}
use Rattle.base.specs.Pick.{pick}
use Rattle.base.specs.Numbers.{not_mesh, hops_none, hops_many, type_large}
use Rattle.base.specs.Answers.{Answer, value, number}
use Rattle.fields.specs.Limits.{hops_least, hops_most}
use Rattle.fields.specs.declared.header.PayloadType.{PayloadType}
use Rattle.fields.specs.declared.header.PayloadType.TheVariants.{Uplink, Downlink, Event, Command}
use Rattle.fields.specs.declared.header.TypeRead.{TypeRead}
use Rattle.fields.specs.declared.header.TypeRead.TheVariants.{Kind, Refused as NoKind}
use Rattle.fields.specs.declared.header.MHDR.{MHDR}
use Rattle.fields.specs.declared.header.HeaderRead.{HeaderRead}
use Rattle.fields.specs.declared.header.HeaderRead.TheVariants.{Header, Refused as NoHeader}
use Rattle.fields.specs.declared.header.HeaderByte.{HeaderByte}
use Rattle.fields.specs.declared.header.HeaderByte.TheVariants.{Byte, Refused as NoByte}

-- 0 uplink, 1 downlink, 2 event, 3 command; 29 over that
unfoldable pub type_read : ℕ → TypeRead
type_read n =
    pick (eqb n 0) (Kind Uplink)
    (pick (eqb n 1) (Kind Downlink) (pick (eqb n 2) (Kind Event) (pick (eqb n 3) (Kind Command) (NoKind type_large))))

abbrev pub code_of : PayloadType → ℕ
code_of Uplink = 0
code_of Downlink = 1
code_of Event = 2
code_of Command = 3

abbrev pub type_least : ℕ
type_least = code_of Uplink

abbrev pub type_most : ℕ
type_most = code_of Command

-- the two bits of type, and the hop count, of a header byte
abbrev pub code_at : ℕ → ℕ
code_at b = b / 8 % 4

abbrev pub hops_at : ℕ → ℕ
hops_at b = b % 8 + 1

abbrev pub typed : ℕ → TypeRead → HeaderRead
typed hops (Kind t) = Header (record { payload_type = t; hop_count = hops })
typed hops (NoKind n) = NoHeader n

unfoldable pub header_of : ℕ → HeaderRead
header_of b = pick (eqb (b / 32) 7) (typed (hops_at b) (type_read (code_at b))) (NoHeader not_mesh)

unfoldable pub header_byte : MHDR → HeaderByte
header_byte h =
    pick (ltb h.hop_count hops_least) (NoByte hops_none)
    (pick (ltb hops_most h.hop_count) (NoByte hops_many)
    (Byte (224 + code_of h.payload_type * 8 + (h.hop_count - 1))))

-- the refusal's number, or the value, of each answer
abbrev pub type_says : TypeRead → Answer PayloadType
type_says (Kind t) = value t
type_says (NoKind n) = number n

abbrev pub header_says : HeaderRead → Answer MHDR
header_says (Header h) = value h
header_says (NoHeader n) = number n

abbrev pub byte_says : HeaderByte → Answer ℕ
byte_says (Byte b) = value b
byte_says (NoByte n) = number n
