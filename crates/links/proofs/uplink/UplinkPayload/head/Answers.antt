-- `links::uplink::UplinkPayload::head` meets its contract. Assumes nothing.
use lib.ListN.{length}
use mathlib.Core.List.{List, ◌++◌}
use Prim.Native.Nat.{ℕ}
use Rattle.base.proofs.Lists.{listed}
use Rattle.base.specs.Answers.{bytes}
use Rattle.base.proofs.Answers.{accepted_is, refused_is}
use Rattle.wire.proofs.Laws.Number.{be_length}
use Rattle.fields.specs.Meta.{up_wire, up_bytes}
use Rattle.fields.specs.declared.meta.UplinkBytes.{UplinkBytes}
use Rattle.links.specs.Write.{uplink_head}
use Rattle.links.proofs.Steps.{head_refused, head_accepted}
use Rattle.links.proofs.Laws.{up_length}
use mathlib.Core.Path.{◌≡◌, sym, ap, ap₂, ◌∙◌}
use Rattle.links.proofs.uplink.UplinkPayload.head.Goals as goal

pub returns-in-Refused : goal.returns-in-Refused
unfolding uplink_head up_bytes
returns-in-Refused c = (let both = head_refused 9 _ _ _ (refused_is (up_wire c.args.self.metadata) _ (sym (ap (λ (x : UplinkBytes). x.answer) c.to_bytes-m.ensures) ∙ c.in-Refused.is)) in record { answer_value = both.0; bytes_value = both.1 })

pub returns-in-Accepted : goal.returns-in-Accepted
unfolding uplink_head up_bytes
returns-in-Accepted c = let m = c.args.self.metadata in
    let e = c.to_bytes-m.ensures in
    let w = c.to_bytes-m.result.bytes in
    let a : up_wire m ≡ bytes w = accepted_is (up_wire m) 5 (sym (ap (λ (x : UplinkBytes). x.answer) e) ∙ c.in-Accepted.is) ∙ ap bytes (sym (ap (λ (x : UplinkBytes). x.bytes) e)) in
    let r = c.be32_bytes-r.ensures in
    let g = head_accepted 9 (up_wire m) _ w a in
    record { answer_value = g.0; bytes_value = ap₂ {B = List ℕ} (λ (x y : List ℕ). x ++ y) (listed 5 w (up_length m w a)) (listed 4 _ (ap length r ∙ be_length 4 _) ∙ r) ∙ g.1 }
