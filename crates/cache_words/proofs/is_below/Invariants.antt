-- `cache_words::is_below` meets its contract: `found` tells of the places looked through so far. Assumes nothing.
use Rattle.std.proofs.Common.{◌≡◌, [], ◌∷◌}
use Rattle.cache_words.specs.inner.Packed.{is_below}
use Rattle.cache_words.proofs.is_below.Given as goal

abbrev pub invariant-loop-i : goal.invariant-loop-i
invariant-loop-i l = l.found ≡ is_below l.words (l.head ∷ l.time ∷ l.relay ∷ []) l.i
