-- `keys::Aes128Key::from_slice` meets its contract. Assumes nothing.
use Rattle.keys.specs.Key.{key_read, key_from_slice}
use Rattle.wire.proofs.Laws.Lay.{put_whole}
use mathlib.Core.Path.{ap, ◌∙◌}
use borrow.Author.Tests.{eq-eqb, ne_eqb}
use Rattle.keys.proofs.Aes128Key.from_slice.Goals as goal

pub returns-then-b-ne-LENGTH : goal.returns-then-b-ne-LENGTH
unfolding key_from_slice
returns-then-b-ne-LENGTH c = simp (ne_eqb _ _ c.if-b-ne-LENGTH.true) c.refused.ensures

pub returns : goal.returns
unfolding key_from_slice
returns c = simp (eq-eqb _ _ c.if-b-ne-LENGTH.false) (c.accepted.ensures ∙ ap key_read (c.put_all.ensures ∙ put_whole _ c.args.b.now c.if-b-ne-LENGTH.false))
