-- `packets::mesh::MeshPacket::from_slice` meets its contract. Assumes nothing.
use Rattle.packets.specs.Read.{with_payload, with_header, mesh_of}
use Rattle.base.proofs.Picks.{picks}
use mathlib.Core.Path.{sym, ap, ◌∙◌}
use borrow.Author.Tests.{le-ltb, ne_eqb}
use Rattle.packets.proofs.mesh.MeshPacket.from_slice.Goals as goal

pub returns-then-n-eq0 : goal.returns-then-n-eq0
unfolding mesh_of
returns-then-n-eq0 c = search picks

pub returns-then-n-gt-FRAME : goal.returns-then-n-gt-FRAME
unfolding mesh_of
returns-then-n-gt-FRAME c = search picks

pub returns-then-n-lt-LEAST : goal.returns-then-n-lt-LEAST
unfolding mesh_of
returns-then-n-lt-LEAST c = search picks

pub returns-in-Refused : goal.returns-in-Refused
unfolding mesh_of
returns-in-Refused c = simp (ne_eqb _ _ c.if-n-eq0.false, le-ltb _ _ c.if-n-gt-FRAME.false, le-ltb _ _ c.if-n-lt-LEAST.false)
    (ap (with_header c.args.frame.now) (sym c.in-Refused.is ∙ c.from_byte.ensures))

pub returns-in-Refused-read_body : goal.returns-in-Refused-read_body
unfolding mesh_of
returns-in-Refused-read_body c = let s = c.args.frame.now in
    simp (ne_eqb _ _ c.if-n-eq0.false, le-ltb _ _ c.if-n-gt-FRAME.false, le-ltb _ _ c.if-n-lt-LEAST.false)
    (ap (with_payload s c.in-Header.mhdr) (sym c.in-Refused-read_body.is ∙ c.read_body.ensures)
    ∙ ap (with_header s) (sym c.in-Header.is ∙ c.from_byte.ensures))

pub returns-in-Payload : goal.returns-in-Payload
unfolding mesh_of
returns-in-Payload c = let s = c.args.frame.now in
    simp (ne_eqb _ _ c.if-n-eq0.false, le-ltb _ _ c.if-n-gt-FRAME.false, le-ltb _ _ c.if-n-lt-LEAST.false)
    (rw c.be32_of.ensures
    (ap (with_payload s c.in-Header.mhdr) (sym c.in-Payload.is ∙ c.read_body.ensures)
    ∙ ap (with_header s) (sym c.in-Header.is ∙ c.from_byte.ensures)))
