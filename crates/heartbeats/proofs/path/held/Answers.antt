-- `heartbeats::path::held` meets its contract. Assumes nothing.
use borrow.Author.Tests.{eq-eqb, ne_eqb}
use Rattle.heartbeats.specs.Paths.{held_of}
use Rattle.heartbeats.proofs.path.held.Goals as goal

pub returns-then-refusal-eq0 : goal.returns-then-refusal-eq0
unfolding held_of
returns-then-refusal-eq0 c = rw (← c.refusal.ensures) (simp (eq-eqb _ _ c.if-refusal-eq0.true))

pub returns : goal.returns
unfolding held_of
returns c = rw (← c.refusal.ensures) (simp (ne_eqb _ _ c.if-refusal-eq0.false))
