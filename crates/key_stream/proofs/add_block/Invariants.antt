-- `key_stream::add_block` meets its contract. Assumes nothing.
use Rattle.std.proofs.Common.{◌≡◌, length, take}
use Rattle.base.specs.Lists.{added}
use Rattle.key_stream.proofs.add_block.Given as goal

abbrev pub invariant-loop-j : goal.invariant-loop-j
invariant-loop-j l = (length l.s ≡ length l.initial.s) × (l.s ≡ added l.initial.s (take l.j l.k))
