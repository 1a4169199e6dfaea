-- `mesh_c::frame::write_payload` meets its contract. Assumes nothing.
use mathlib.Core.Path.{sym, ap, ◌∙◌}
use Rattle.base.specs.Answers.{answer_of, out_of}
use Rattle.contents.specs.Content.{framed}
use Rattle.links.specs.Write.{limited_of}
use Rattle.packets.specs.Write.{payload_wire}
use Rattle.packets.specs.declared.mesh.Payload.{Payload}
use Rattle.mesh_c.proofs.frame.write_payload.Goals as goal

pub returns-in-Uplink : goal.returns-in-Uplink
unfolding payload_wire
returns-in-Uplink c =
    let a = c.args in
    let e = sym c.in-Uplink.is in
    rw (← c.lent.view_is) (record { answer = c.write.ensures.answer ∙ ap (λ (p : Payload). answer_of (limited_of (payload_wire (framed c.lent.inside.frame.now c.lent.inside.lists) p)) a.out.now) e; out = c.write.ensures.bytes ∙ ap (λ (p : Payload). out_of (limited_of (payload_wire (framed c.lent.inside.frame.now c.lent.inside.lists) p)) a.out.now) e })

pub returns-in-Downlink : goal.returns-in-Downlink
unfolding payload_wire
returns-in-Downlink c =
    let a = c.args in
    let e = sym c.in-Downlink.is in
    rw (← c.lent.view_is) (record { answer = c.write-in-Downlink.ensures.answer ∙ ap (λ (p : Payload). answer_of (limited_of (payload_wire (framed c.lent.inside.frame.now c.lent.inside.lists) p)) a.out.now) e; out = c.write-in-Downlink.ensures.bytes ∙ ap (λ (p : Payload). out_of (limited_of (payload_wire (framed c.lent.inside.frame.now c.lent.inside.lists) p)) a.out.now) e })

pub returns-in-Event : goal.returns-in-Event
unfolding payload_wire
returns-in-Event c =
    let a = c.args in
    let e = sym c.in-Event.is in
    record { answer = c.write-in-Event.ensures.answer ∙ ap (λ (p : Payload). answer_of (limited_of (payload_wire a.lent.now p)) a.out.now) e; out = c.write-in-Event.ensures.bytes ∙ ap (λ (p : Payload). out_of (limited_of (payload_wire a.lent.now p)) a.out.now) e }

pub returns-in-Command : goal.returns-in-Command
unfolding payload_wire
returns-in-Command c =
    let a = c.args in
    let e = sym c.in-Command.is in
    record { answer = c.write-in-Command.ensures.answer ∙ ap (λ (p : Payload). answer_of (limited_of (payload_wire a.lent.now p)) a.out.now) e; out = c.write-in-Command.ensures.bytes ∙ ap (λ (p : Payload). out_of (limited_of (payload_wire a.lent.now p)) a.out.now) e }
