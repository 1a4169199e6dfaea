-- `heartbeats::heartbeat::HeartbeatPayload::write` meets its contract. Assumes nothing.
use Rattle.std.proofs.Common.{◌≡◌, ◌∙◌, ◌≤◌, ◌<◌, ◌*◌, ◌+◌, ℕ, sym, ap, arith, length}
use native.Mathlib.Numerals.{add-one}
use mathlib.Core.Path.{subst}
use Rattle.heartbeats.specs.inner.Steps.{beat_verdict, places_of}
use Rattle.heartbeats.proofs.Steps.{Fits, packed, packed_none, packed_more, packed_all, packed_fits, verdict_is}
use Rattle.heartbeats.proofs.heartbeat.HeartbeatPayload.write.Goals as goal

pub loop-i-init : goal.loop-i-init
loop-i-init c =
    let v = c.verdict-answer.ensures ∙ ap (λ (b : ℕ). beat_verdict b (length c.args.relay_path.now) (length c.args.out.now)) c.first_bad.ensures in
    let f = subst (λ (m : ℕ). Fits (length c.args.out.now) (length c.args.relay_path.now) m) (sym (c.places_of-n.ensures ∙ ap places_of v)) (packed_fits c.args.relay_path.now c.args.out.now) in
    (omega arith, sym (packed_none c.args.relay_path.now c.args.out.now), f)

pub loop-i-preserved : goal.loop-i-preserved
loop-i-preserved c =
    let h : c.loop-i.i < length c.args.relay_path.now = omega arith in
    let r : c.loop-i.i * 6 + 6 ≤ length c.args.out.now = omega arith in
    (omega arith, rw (c.put_entry.ensures, c.loop-i.invariant.1, add-one) (packed_more c.args.relay_path.now c.args.out.now c.loop-i.i h r), c.loop-i.invariant.2)

pub returns : goal.returns
returns c =
    let v = c.verdict-answer.ensures ∙ ap (λ (b : ℕ). beat_verdict b (length c.args.relay_path.now) (length c.args.out.now)) c.first_bad.ensures in
    let e : c.loop-i.i ≡ c.places_of-n.result = omega arith in
    record {
      answer = v ∙ verdict_is c.args.relay_path.now c.args.out.now;
      bytes = c.loop-i.invariant.1 ∙ ap (packed c.args.relay_path.now c.args.out.now) (e ∙ c.places_of-n.ensures ∙ ap places_of v) ∙ packed_all c.args.relay_path.now c.args.out.now;
    }
