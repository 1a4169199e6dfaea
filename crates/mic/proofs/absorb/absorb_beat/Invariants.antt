-- `mic::absorb::absorb_beat` meets its contract. Assumes nothing.
use Prim.Native.Nat.{◌-◌, ◌≤◌}
use mathlib.Core.Bool.{true}
use lib.ListN.{length, drop}
use Rattle.base.specs.Lists.{imap}
use Rattle.cipher.specs.inner.Words.{enciphered}
use Rattle.kept_items.specs.Kept.{fixed}
use Rattle.mic.proofs.Absorbing.{Left}
use Rattle.mic.proofs.absorb.absorb_beat.Given as goal

abbrev pub invariant-loop-i : goal.invariant-loop-i
invariant-loop-i l = (l.i ≤ length l.value) × Left (enciphered l.e) l.initial.a (imap (fixed true) 0 l.value) l.a (imap (fixed true) 0 (drop l.i l.value))

abbrev pub decreases-loop-i : goal.decreases-loop-i
decreases-loop-i l = length l.value - l.i
