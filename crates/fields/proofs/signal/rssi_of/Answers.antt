-- `fields::signal::rssi_of` meets its contract. Assumes nothing.
use lib.Dec.{lit<}
use mir.Facts.{to_z-of_z, to_z_pos}
use mir.Syntax.{w16}
use Rattle.fields.specs.Signal.{rssi_of}
use Rattle.fields.proofs.Laws.Signal.{minus, neg_fits}
use native.Mathlib.Omega.{arith}
use Rattle.fields.proofs.signal.rssi_of.Goals as goal

pub overflow_sub-result : goal.overflow_sub-result
overflow_sub-result c = rw (to_z_pos w16 {n = c.args.b} (omega arith), minus) (neg_fits w16 c.args.b (omega arith) (lit< tt))

pub returns : goal.returns
unfolding rssi_of
returns c = rw (to_z_pos w16 {n = c.args.b} (omega arith), minus) (to_z-of_z (neg_fits w16 c.args.b (omega arith) (lit< tt)))
