-- `mic::make` meets its contract. Assumes nothing.
use mathlib.Core.Path.{sym, ap, ◌∙◌}
use mathlib.Core.Bool.{true, false}
use mathlib.Core.List.{List}
use Prim.Native.Nat.{ℕ}
use Rattle.fips197.specs.Aes.{aes}
use Rattle.contents.specs.Content.{framed, content_wire}
use Rattle.links.specs.Write.{headed_by}
use Rattle.events.specs.Write.{stamped_wire, event_wire, command_wire}
use Rattle.packets.specs.Write.{payload_wire}
use Rattle.mic.proofs.Steps.{kinds_refused, header_refused, header_byte_lem}
use Rattle.mic.proofs.make.Goals as goal

pub returns-then-strange-ne0 : goal.returns-then-strange-ne0
returns-then-strange-ne0 c = let a = c.args in kinds_refused (aes a.key.0) a.lent.now a.p _ c.kinds_refusal-strange.ensures c.if-strange-ne0.true

pub returns-in-Refused : goal.returns-in-Refused
returns-in-Refused c = let a = c.args in
    header_refused (aes a.key.0) a.lent.now a.p _ c.kinds_refusal-strange.ensures c.if-strange-ne0.false _ (sym c.in-Refused.is ∙ c.to_byte.ensures)

pub returns-in-Uplink : goal.returns-in-Uplink
unfolding payload_wire
returns-in-Uplink c = let a = c.args in
    let l = framed c.lent.inside.frame.now c.lent.inside.lists in
    rw (← c.lent.view_is) (header_byte_lem (aes a.key.0) l a.p _ (rw (← c.lent.view_is) at c.kinds_refusal-strange.ensures) c.if-strange-ne0.false _ _ _ (sym c.in-Byte.is ∙ c.to_byte.ensures) (ap (payload_wire l) c.in-Uplink.is) c.sign_uplink.ensures)

pub returns-in-Downlink : goal.returns-in-Downlink
unfolding payload_wire
returns-in-Downlink c = let a = c.args in
    let l = framed c.lent.inside.frame.now c.lent.inside.lists in
    rw (← c.lent.view_is) (header_byte_lem (aes a.key.0) l a.p _ (rw (← c.lent.view_is) at c.kinds_refusal-strange.ensures) c.if-strange-ne0.false _ _ _ (sym c.in-Byte.is ∙ c.to_byte.ensures) (ap (payload_wire l) c.in-Downlink.is) c.sign_downlink.ensures)

pub returns-in-Event : goal.returns-in-Event
unfolding payload_wire event_wire stamped_wire
returns-in-Event c = let a = c.args in
    let l = a.lent.now in
    header_byte_lem (aes a.key.0) l a.p _ c.kinds_refusal-strange.ensures c.if-strange-ne0.false _ _ _ (sym c.in-Byte.is ∙ c.to_byte.ensures)
    (ap (payload_wire l) c.in-Event.is ∙ ap (λ (h : List ℕ). headed_by h (content_wire true l c.in-Event.u.events)) (sym c.head-head.ensures)) c.sign_content.ensures

pub returns-in-Command : goal.returns-in-Command
unfolding payload_wire command_wire stamped_wire
returns-in-Command c = let a = c.args in
    let l = a.lent.now in
    header_byte_lem (aes a.key.0) l a.p _ c.kinds_refusal-strange.ensures c.if-strange-ne0.false _ _ _ (sym c.in-Byte.is ∙ c.to_byte.ensures)
    (ap (payload_wire l) c.in-Command.is ∙ ap (λ (h : List ℕ). headed_by h (content_wire false l c.in-Command.u.commands)) (sym c.head-head-in-Command.ensures)) c.sign_content-in-Command.ensures
