-- `links::downlink::DownlinkPayload::head` meets its contract. Assumes nothing.
use lib.ListN.{length}
use mathlib.Core.List.{List, ◌++◌}
use Prim.Native.Nat.{ℕ}
use Rattle.base.proofs.Lists.{listed}
use Rattle.base.specs.Answers.{bytes}
use Rattle.base.proofs.Answers.{accepted_is, refused_is}
use Rattle.wire.proofs.Laws.Number.{be_length}
use Rattle.fields.specs.Meta.{down_wire, down_bytes}
use Rattle.fields.specs.declared.meta.DownlinkBytes.{DownlinkBytes}
use Rattle.links.specs.Write.{downlink_head}
use Rattle.links.proofs.Steps.{head_refused, head_accepted}
use Rattle.links.proofs.Laws.{down_length}
use mathlib.Core.Path.{◌≡◌, sym, ap, ap₂, ◌∙◌}
use Rattle.links.proofs.downlink.DownlinkPayload.head.Goals as goal

pub returns-in-Refused : goal.returns-in-Refused
unfolding downlink_head down_bytes
returns-in-Refused c = (let both = head_refused 10 _ _ _ (refused_is (down_wire c.args.self.metadata) _ (sym (ap (λ (x : DownlinkBytes). x.answer) c.to_bytes-m.ensures) ∙ c.in-Refused.is)) in record { answer_value = both.0; bytes_value = both.1 })

pub returns-in-Accepted : goal.returns-in-Accepted
unfolding downlink_head down_bytes
returns-in-Accepted c = let m = c.args.self.metadata in
    let e = c.to_bytes-m.ensures in
    let w = c.to_bytes-m.result.bytes in
    let a : down_wire m ≡ bytes w = accepted_is (down_wire m) 6 (sym (ap (λ (x : DownlinkBytes). x.answer) e) ∙ c.in-Accepted.is) ∙ ap bytes (sym (ap (λ (x : DownlinkBytes). x.bytes) e)) in
    let r = c.be32_bytes-r.ensures in
    let g = head_accepted 10 (down_wire m) _ w a in
    record { answer_value = g.0; bytes_value = ap₂ {B = List ℕ} (λ (x y : List ℕ). x ++ y) (listed 6 w (down_length m w a)) (listed 4 _ (ap length r ∙ be_length 4 _) ∙ r) ∙ g.1 }
