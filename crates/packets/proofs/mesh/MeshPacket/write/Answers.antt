-- `packets::mesh::MeshPacket::write` meets its contract. Assumes nothing.
use mathlib.Core.Path.{sym, ap, ◌∙◌}
use Rattle.links.proofs.Steps.{same_frame}
use Rattle.contents.specs.Content.{framed}
use Rattle.packets.specs.Write.{payload_wire}
use Rattle.packets.proofs.Steps.{kinds_refused, header_refused, header_byte_lem}
use Rattle.packets.proofs.mesh.MeshPacket.write.Goals as goal

pub returns-then-strange-ne0 : goal.returns-then-strange-ne0
returns-then-strange-ne0 c = let a = c.args in (let both = kinds_refused _ a.self _ c.kinds_refusal-strange.ensures a.out.now c.if-strange-ne0.true in record { answer = both.0; bytes = both.1 })

pub returns-in-Refused : goal.returns-in-Refused
returns-in-Refused c = let a = c.args in (let both = header_refused _ a.self _ c.kinds_refusal-strange.ensures c.if-strange-ne0.false _ a.out.now (sym c.in-Refused.is ∙ c.to_byte.ensures) in record { answer = both.0; bytes = both.1 })

pub returns-in-Uplink : goal.returns-in-Uplink
unfolding payload_wire
returns-in-Uplink c = let a = c.args in
    let l = framed c.lent.inside.frame.now c.lent.inside.lists in
    rw (← c.lent.view_is) (let both = same_frame _ _ _ _ _ (header_byte_lem l a.self _ (rw (← c.lent.view_is) at c.kinds_refusal-strange.ensures) c.if-strange-ne0.false _ _ (sym c.in-Byte.is ∙ c.to_byte.ensures) (ap (payload_wire l) c.in-Uplink.is)) (c.write_in.ensures.answer, c.write_in.ensures.bytes) in record { answer = both.0; bytes = both.1 })

pub returns-in-Downlink : goal.returns-in-Downlink
unfolding payload_wire
returns-in-Downlink c = let a = c.args in
    let l = framed c.lent.inside.frame.now c.lent.inside.lists in
    rw (← c.lent.view_is) (let both = same_frame _ _ _ _ _ (header_byte_lem l a.self _ (rw (← c.lent.view_is) at c.kinds_refusal-strange.ensures) c.if-strange-ne0.false _ _ (sym c.in-Byte.is ∙ c.to_byte.ensures) (ap (payload_wire l) c.in-Downlink.is)) (c.write_in-in-Downlink.ensures.answer, c.write_in-in-Downlink.ensures.bytes) in record { answer = both.0; bytes = both.1 })

pub returns-in-Event : goal.returns-in-Event
unfolding payload_wire
returns-in-Event c = let a = c.args in
    let l = a.lent.now in
    (let both = same_frame _ _ _ _ _ (header_byte_lem l a.self _ c.kinds_refusal-strange.ensures c.if-strange-ne0.false _ _ (sym c.in-Byte.is ∙ c.to_byte.ensures) (ap (payload_wire l) c.in-Event.is)) (c.write_in-in-Event.ensures.answer, c.write_in-in-Event.ensures.bytes) in record { answer = both.0; bytes = both.1 })

pub returns-in-Command : goal.returns-in-Command
unfolding payload_wire
returns-in-Command c = let a = c.args in
    let l = a.lent.now in
    (let both = same_frame _ _ _ _ _ (header_byte_lem l a.self _ c.kinds_refusal-strange.ensures c.if-strange-ne0.false _ _ (sym c.in-Byte.is ∙ c.to_byte.ensures) (ap (payload_wire l) c.in-Command.is)) (c.write_in-in-Command.ensures.answer, c.write_in-in-Command.ensures.bytes) in record { answer = both.0; bytes = both.1 })
