-- `hops::rewrite` meets its contract. Assumes nothing.
use borrow.Author.Tests.{lt-ltb, le-ltb}
use Rattle.hops.specs.inner.Steps.{rewritten}
use Rattle.hops.proofs.rewrite.Goals as goal

pub returns-then-end-gt0 : goal.returns-then-end-gt0
unfolding rewritten
returns-then-end-gt0 c =
    let i = c.before.before.before.before.before.before.before.before in
    simp (lt-ltb 0 _ (rw i.mic_at-end.ensures at i.if-end-gt0.true)) (cc)

pub returns-else-end-gt0 : goal.returns-else-end-gt0
unfolding rewritten
returns-else-end-gt0 c = simp (le-ltb 0 _ (rw c.mic_at-end.ensures at c.if-end-gt0.false))
