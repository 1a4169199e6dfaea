-- `key_stream::add_stream` meets its contract. Assumes nothing.
use Rattle.std.proofs.Common.{◌-◌, min, length}
use Rattle.cipher.specs.inner.Words.{enciphered}
use Rattle.key_stream.specs.Stream.{numbered}
use Rattle.key_stream.proofs.Turns.{Adding}
use Rattle.key_stream.proofs.add_stream.Given as goal

abbrev pub invariant-loop-at : goal.invariant-loop-at
invariant-loop-at l = Adding (enciphered l.e) (numbered l.is_event l.relay_id l.timestamp) l.initial.buf l.buf l.n (min l.at (length l.initial.buf))

abbrev pub decreases-loop-at : goal.decreases-loop-at
decreases-loop-at l = length l.initial.buf - l.at
