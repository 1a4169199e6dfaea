-- `cmac::absorb` meets its contract. Assumes nothing.
use Prim.Native.Nat.{◌≤◌, ◌<◌}
use mathlib.Core.List.{foldl}
use lib.ListN.{length}
use Rattle.cipher.specs.inner.Words.{enciphered}
use Rattle.cmac_chain.specs.inner.State.{absorb1}
use mathlib.Core.Path.{◌≡◌}
use Rattle.cmac.proofs.absorb.Given as goal

-- what is left gives what all gave, and goes on from a full block
abbrev pub invariant-loop-block : goal.invariant-loop-block
invariant-loop-block l = (l.block-iterator.size ≡ 16)
    × (foldl (absorb1 (enciphered l.e)) l.fn.m l.s ≡ foldl (absorb1 (enciphered l.e)) l.a l.block-iterator.rest.now)
    × (0 < length l.block-iterator.rest.now → 16 ≤ l.a.count)
