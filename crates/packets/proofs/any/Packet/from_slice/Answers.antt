-- `packets::any::Packet::from_slice` meets its contract. Assumes nothing.
use Rattle.packets.specs.Read.{of_mesh, packet_of}
use Rattle.base.proofs.Picks.{picks}
use mathlib.Core.Path.{sym, ap, ◌∙◌}
use borrow.Author.Tests.{le-ltb, eq-eqb, ne_eqb}
use Rattle.packets.proofs.any.Packet.from_slice.Goals as goal

pub returns-then-n-eq0 : goal.returns-then-n-eq0
unfolding packet_of
returns-then-n-eq0 c = search picks

pub returns-then-n-gt-FRAME : goal.returns-then-n-gt-FRAME
unfolding packet_of
returns-then-n-gt-FRAME c = search picks

pub returns-in-Refused : goal.returns-in-Refused
unfolding packet_of
returns-in-Refused c = simp (ne_eqb _ _ c.if-n-eq0.false, le-ltb _ _ c.if-n-gt-FRAME.false, eq-eqb _ _ c.if-b-eq-MARK.true)
    (ap of_mesh (sym c.in-Refused.is ∙ c.from_slice.ensures))

pub returns-in-Mesh : goal.returns-in-Mesh
unfolding packet_of
returns-in-Mesh c = simp (ne_eqb _ _ c.if-n-eq0.false, le-ltb _ _ c.if-n-gt-FRAME.false, eq-eqb _ _ c.if-b-eq-MARK.true)
    (ap of_mesh (sym c.in-Mesh.is ∙ c.from_slice.ensures))

pub returns : goal.returns
unfolding packet_of
returns c = simp (ne_eqb _ _ c.if-n-eq0.false, le-ltb _ _ c.if-n-gt-FRAME.false, ne_eqb _ _ c.if-b-eq-MARK.false)
