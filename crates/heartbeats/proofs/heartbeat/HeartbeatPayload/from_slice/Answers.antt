-- `heartbeats::heartbeat::HeartbeatPayload::from_slice` meets its contract. Assumes nothing.
use Rattle.std.proofs.Common.{◌≡◌, ◌∙◌, ◌<◌, ℕ, sym, ap, arith, length}
use native.Mathlib.Numerals.{add-one}
use mathlib.Core.Path.{subst}
use Rattle.heartbeats.specs.inner.Steps.{count_of}
use Rattle.heartbeats.proofs.Steps.{Fits, count_fits, filled, filled_none, filled_more, filled_all}
use Rattle.heartbeats.proofs.heartbeat.HeartbeatPayload.from_slice.Goals as goal

pub loop-i-init : goal.loop-i-init
loop-i-init c =
    let f = subst (λ (m : ℕ). Fits (length c.args.b.now) (length c.args.relay_path.now) m) (sym (c.count_of-n.ensures ∙ ap count_of c.check-read.ensures)) (count_fits c.args.b.now c.args.relay_path.now) in
    (omega arith, filled_none c.args.b.now c.args.relay_path.now, f)

pub loop-i-preserved : goal.loop-i-preserved
loop-i-preserved c =
    let h : c.loop-i.i < length c.args.relay_path.now = omega arith in
    (omega arith, rw (c.loop-i.invariant.1, c.entry_at.ensures, add-one) (filled_more c.args.b.now c.args.relay_path.now c.loop-i.i h), c.loop-i.invariant.2)

pub returns : goal.returns
returns c =
    let e : c.loop-i.i ≡ c.count_of-n.result = omega arith in
    record {
      answer = c.check-read.ensures;
      records = c.loop-i.invariant.1 ∙ ap (filled c.args.b.now c.args.relay_path.now) (e ∙ c.count_of-n.ensures ∙ ap count_of c.check-read.ensures) ∙ filled_all c.args.b.now c.args.relay_path.now;
    }
