-- `sealing::mesh::decrypt` meets its contract. Assumes nothing.
use mathlib.Core.Path.{sym, ap, ◌∙◌}
use Rattle.sealing.specs.Mesh.{of_event_opened, of_command_opened, mesh_decrypted, mesh_work}
use Rattle.packets.specs.declared.mesh.Payload.{Payload}
use Rattle.sealing.proofs.mesh.decrypt.Goals as goal

pub returns-in-Uplink : goal.returns-in-Uplink
unfolding mesh_decrypted mesh_work
returns-in-Uplink c = let a = c.args in
    let f = a.frame.now in
    let w = a.work.now in
    let e = sym c.in-Uplink.is in
    record { answer = c.as_it_is.ensures ∙ ap (λ (q : Payload). mesh_decrypted a.key.0 a.packet q f w) e; work = ap (λ (q : Payload). mesh_work a.key.0 q f w) e }

pub returns-in-Downlink : goal.returns-in-Downlink
unfolding mesh_decrypted mesh_work
returns-in-Downlink c = let a = c.args in
    let f = a.frame.now in
    let w = a.work.now in
    let e = sym c.in-Downlink.is in
    record { answer = c.as_it_is-in-Downlink.ensures ∙ ap (λ (q : Payload). mesh_decrypted a.key.0 a.packet q f w) e; work = ap (λ (q : Payload). mesh_work a.key.0 q f w) e }

pub returns-in-Event : goal.returns-in-Event
unfolding mesh_decrypted mesh_work
returns-in-Event c = let a = c.args in
    let f = a.frame.now in
    let w = a.work.now in
    let e = sym c.in-Event.is in
    record { answer = c.of_event.ensures ∙ ap (of_event_opened a.packet) c.decrypt.ensures.answer ∙ ap (λ (q : Payload). mesh_decrypted a.key.0 a.packet q f w) e; work = c.decrypt.ensures.work ∙ ap (λ (q : Payload). mesh_work a.key.0 q f w) e }

pub returns-in-Command : goal.returns-in-Command
unfolding mesh_decrypted mesh_work
returns-in-Command c = let a = c.args in
    let f = a.frame.now in
    let w = a.work.now in
    let e = sym c.in-Command.is in
    record { answer = c.of_command.ensures ∙ ap (of_command_opened a.packet) c.decrypt-in-Command.ensures.answer ∙ ap (λ (q : Payload). mesh_decrypted a.key.0 a.packet q f w) e; work = c.decrypt-in-Command.ensures.work ∙ ap (λ (q : Payload). mesh_work a.key.0 q f w) e }
