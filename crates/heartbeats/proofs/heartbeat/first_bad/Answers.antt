-- `heartbeats::heartbeat::first_bad` meets its contract. Assumes nothing.
use Rattle.std.proofs.Common.{◌∙◌, refl, ap, arith}
use native.Mathlib.Numerals.{add-one}
use lib.Seq.{take_all}
use Rattle.base.specs.Lists.{first_of}
use Rattle.fields.specs.Path.{bad_entry}
use Rattle.heartbeats.proofs.Steps.{first_more}
use Rattle.heartbeats.proofs.heartbeat.first_bad.Goals as goal

pub loop-i-init : goal.loop-i-init
unfolding first_of
loop-i-init c = (omega arith, refl)

pub loop-i-preserved : goal.loop-i-preserved
loop-i-preserved c =
    let h = c.bad_after-bad.ensures in
    let f = first_more c.args.relay_path.now c.loop-i.i c.loop-i-test.true in
    (omega arith, rw (h, c.loop-i.invariant.1, add-one) f)

pub returns : goal.returns
returns c = c.loop-i.invariant.1 ∙ ap (first_of bad_entry) (take_all c.loop-i.i c.args.relay_path.now c.loop-i-test.false)
