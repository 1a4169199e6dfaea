-- `fields::signal::snr_of` meets its contract. Assumes nothing.
use Prim.Native.Nat.{◌-◌, ◌%◌}
use lib.Dec.{lit<}
use mathlib.Core.Path.{refl}
use mir.Facts.{to_z-of_z, to_z_pos}
use mir.Syntax.{w8}
use Rattle.fields.specs.Signal.{snr_of}
use Rattle.fields.proofs.Laws.Signal.{minus, neg_fits}
use native.Mathlib.Omega.{arith}
use borrow.Author.Tests.{lt-ltb, le-ltb}
use Rattle.fields.proofs.signal.snr_of.Goals as goal

pub returns-then-n-lt32 : goal.returns-then-n-lt32
unfolding snr_of
returns-then-n-lt32 c = rw (lt-ltb (c.args.b % 64) 32 c.if-n-lt32.true, to_z_pos w8 {n = c.args.b % 64} (omega arith)) refl

pub overflow_sub-result-2 : goal.overflow_sub-result-2
overflow_sub-result-2 c = let n = 64 - c.args.b % 64 in rw (to_z_pos w8 {n = n} (omega arith), minus) (neg_fits w8 n (omega arith) (lit< tt))

pub returns : goal.returns
unfolding snr_of
returns c = let n = 64 - c.args.b % 64 in
    rw (le-ltb (c.args.b % 64) 32 c.if-n-lt32.false, to_z_pos w8 {n = n} (omega arith), minus, to_z-of_z (neg_fits w8 n (omega arith) (lit< tt))) refl
