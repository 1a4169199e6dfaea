-- `mic::absorb::absorb_kept` meets its contract. Assumes nothing.
use Prim.Native.Nat.{◌-◌}
use lib.ListN.{length, drop}
use Rattle.cipher.specs.inner.Words.{enciphered}
use Rattle.items.specs.Items.{pieces}
use Rattle.kept_items.specs.Kept.{kept_wire, open_bytes}
use Rattle.mic.proofs.Absorbing.{Left}
use Rattle.mic.proofs.absorb.absorb_kept.Given as goal

abbrev pub invariant-loop-item : goal.invariant-loop-item
invariant-loop-item l = Left (enciphered l.e) l.initial.a (open_bytes l.is_event l.payload) l.a (kept_wire l.is_event (pieces l.is_event 0 (drop l.p l.payload)))

abbrev pub decreases-loop-item : goal.decreases-loop-item
decreases-loop-item l = length l.payload - l.p
