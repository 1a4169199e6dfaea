-- `sealing::mesh::decode` meets its contract. Assumes nothing.
use mathlib.Core.Path.{sym, ap, ◌∙◌}
use Rattle.sealing.specs.Mesh.{of_event_opened, of_command_opened, mesh_decoded}
use Rattle.packets.specs.declared.mesh.Payload.{Payload}
use Rattle.sealing.proofs.mesh.decode.Goals as goal

pub returns-in-Uplink : goal.returns-in-Uplink
unfolding mesh_decoded
returns-in-Uplink c = let a = c.args in c.as_it_is.ensures ∙ ap (λ (q : Payload). mesh_decoded a.packet q a.frame.now a.work.now) (sym c.in-Uplink.is)

pub returns-in-Downlink : goal.returns-in-Downlink
unfolding mesh_decoded
returns-in-Downlink c = let a = c.args in c.as_it_is-in-Downlink.ensures ∙ ap (λ (q : Payload). mesh_decoded a.packet q a.frame.now a.work.now) (sym c.in-Downlink.is)

pub returns-in-Event : goal.returns-in-Event
unfolding mesh_decoded
returns-in-Event c = let a = c.args in
    c.of_event.ensures ∙ ap (of_event_opened a.packet) c.decode.ensures ∙ ap (λ (q : Payload). mesh_decoded a.packet q a.frame.now a.work.now) (sym c.in-Event.is)

pub returns-in-Command : goal.returns-in-Command
unfolding mesh_decoded
returns-in-Command c = let a = c.args in
    c.of_command.ensures ∙ ap (of_command_opened a.packet) c.decode-in-Command.ensures ∙ ap (λ (q : Payload). mesh_decoded a.packet q a.frame.now a.work.now) (sym c.in-Command.is)
