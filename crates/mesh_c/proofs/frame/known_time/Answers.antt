-- `mesh_c::frame::known_time` meets its contract. Assumes nothing.
use borrow.Author.Tests.{lt-ltb, le-ltb}
use Rattle.mesh_c.specs.inner.Known.{known_time}
use Rattle.mesh_c.proofs.frame.known_time.Goals as goal

pub returns-then-kind : goal.returns-then-kind
unfolding known_time
returns-then-kind c =
    simp (lt-ltb _ _ c.if-kind.true)

pub returns : goal.returns
unfolding known_time
returns c =
    simp (le-ltb _ _ c.if-kind.false)
