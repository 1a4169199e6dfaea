-- The hop edit: exactly what reading, setting the count, signing and writing afresh gives. Over any block cipher E. Assumes nothing.
use Rattle.std.specs.Prelude.{ℕ, List, []}
use Rattle.base.specs.Answers.{Writing, bytes, refused}
use Rattle.fields.specs.declared.header.MHDR.{MHDR}
use Rattle.contents.specs.Content.{Lent, lent}
use Rattle.packets.specs.Read.{mesh_of}
use Rattle.packets.specs.Write.{mesh_frame}
use Rattle.packets.specs.declared.mesh.MeshPacket.{MeshPacket}
use Rattle.packets.specs.declared.mesh.MeshRead.{MeshRead}
use Rattle.packets.specs.declared.mesh.MeshRead.TheVariants.{Mesh, Refused}
use Rattle.mic.specs.Mic.{set_mic}

-- a received frame, beside which nothing is lent
abbrev pub alone : List ℕ → Lent
alone s = lent s [] [] [] [] [] []

-- a header, and a packet, with another hop count
abbrev pub recounted : MHDR → ℕ → MHDR
recounted h n = record { payload_type = h.payload_type; hop_count = n }

abbrev pub carrying_count : MeshPacket → ℕ → MeshPacket
carrying_count p n = record { mhdr = recounted p.mhdr n; payload = p.payload; has_mic = p.has_mic; mic = p.mic }

abbrev pub written_of : Lent → MeshRead → Writing
written_of l (Refused k) = refused k
written_of l (Mesh p) = mesh_frame l p

abbrev pub signed_anew : (List ℕ → List ℕ) → List ℕ → ℕ → MeshRead → Writing
signed_anew E s n (Refused k) = refused k
signed_anew E s n (Mesh p) = written_of (alone s) (set_mic E (alone s) (carrying_count p n))

-- read, set the count, sign, write: the frame, or the first refusal of these in turn
unfoldable pub hop_edit : (List ℕ → List ℕ) → List ℕ → ℕ → Writing
hop_edit E s n = signed_anew E s n (mesh_of s)

-- what the edit leaves in the buffer: the frame as it was where it refuses
abbrev pub leaves : Writing → List ℕ → List ℕ
leaves (refused n) s = s
leaves (bytes w) s = w
