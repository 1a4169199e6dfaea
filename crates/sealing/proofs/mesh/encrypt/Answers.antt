-- `sealing::mesh::encrypt` meets its contract. Assumes nothing.
use lib.ListN.{length}
use mathlib.Core.Path.{sym, ap, ◌∙◌}
use mathlib.Core.List.{[]}
use native.Mathlib.Omega.{arith}
use Rattle.base.specs.Answers.{out_of}
use Rattle.base.proofs.Answers.{room, out_length}
use Rattle.sealing.specs.Mesh.{seal_of, of_event_sealed, of_command_sealed, mesh_sealed}
use Rattle.packets.specs.declared.mesh.Payload.{Payload}
use Rattle.packets.specs.declared.mesh.MeshRead.TheVariants.{Mesh}
use Rattle.sealing.proofs.mesh.encrypt.Goals as goal

pub returns-in-Uplink : goal.returns-in-Uplink
unfolding mesh_sealed
returns-in-Uplink c = let a = c.args in
    let l = a.lent.now in
    let e = sym c.in-Uplink.is in
    record { answer = ap (λ (q : Payload). mesh_sealed a.key.0 l a.packet q a.out.now) e; bytes = sym (room [] a.out.now (omega arith)).1 ∙ ap (λ (q : Payload). out_of (seal_of a.key.0 l q) a.out.now) e }

pub returns-in-Downlink : goal.returns-in-Downlink
unfolding mesh_sealed
returns-in-Downlink c = let a = c.args in
    let l = a.lent.now in
    let e = sym c.in-Downlink.is in
    record { answer = ap (λ (q : Payload). mesh_sealed a.key.0 l a.packet q a.out.now) e; bytes = sym (room [] a.out.now (omega arith)).1 ∙ ap (λ (q : Payload). out_of (seal_of a.key.0 l q) a.out.now) e }

pub shape_of-out-in-Payload : goal.shape_of-out-in-Payload
shape_of-out-in-Payload c = ap length c.encrypt.ensures.bytes ∙ out_length _ _

pub returns-in-Payload : goal.returns-in-Payload
unfolding mesh_sealed
returns-in-Payload c = let a = c.args in
    let l = a.lent.now in
    let e = sym c.in-Event.is in
    record { answer = ap Mesh c.carrying.ensures ∙ ap (of_event_sealed a.packet) (sym c.in-Payload.is ∙ c.encrypt.ensures.answer) ∙ ap (λ (q : Payload). mesh_sealed a.key.0 l a.packet q a.out.now) e; bytes = c.encrypt.ensures.bytes ∙ ap (λ (q : Payload). out_of (seal_of a.key.0 l q) a.out.now) e }

pub shape_of-out-in-Refused : goal.shape_of-out-in-Refused
shape_of-out-in-Refused c = ap length c.encrypt.ensures.bytes ∙ out_length _ _

pub returns-in-Refused : goal.returns-in-Refused
unfolding mesh_sealed
returns-in-Refused c = let a = c.args in
    let l = a.lent.now in
    let e = sym c.in-Event.is in
    record { answer = ap (of_event_sealed a.packet) (sym c.in-Refused.is ∙ c.encrypt.ensures.answer) ∙ ap (λ (q : Payload). mesh_sealed a.key.0 l a.packet q a.out.now) e; bytes = c.encrypt.ensures.bytes ∙ ap (λ (q : Payload). out_of (seal_of a.key.0 l q) a.out.now) e }

pub shape_of-out-in-Payload-encrypt : goal.shape_of-out-in-Payload-encrypt
shape_of-out-in-Payload-encrypt c = ap length c.encrypt-in-Command.ensures.bytes ∙ out_length _ _

pub returns-in-Payload-encrypt : goal.returns-in-Payload-encrypt
unfolding mesh_sealed
returns-in-Payload-encrypt c = let a = c.args in
    let l = a.lent.now in
    let e = sym c.in-Command.is in
    record { answer = ap Mesh c.carrying-in-Payload-encrypt.ensures ∙ ap (of_command_sealed a.packet) (sym c.in-Payload-encrypt.is ∙ c.encrypt-in-Command.ensures.answer) ∙ ap (λ (q : Payload). mesh_sealed a.key.0 l a.packet q a.out.now) e; bytes = c.encrypt-in-Command.ensures.bytes ∙ ap (λ (q : Payload). out_of (seal_of a.key.0 l q) a.out.now) e }

pub shape_of-out-in-Refused-encrypt : goal.shape_of-out-in-Refused-encrypt
shape_of-out-in-Refused-encrypt c = ap length c.encrypt-in-Command.ensures.bytes ∙ out_length _ _

pub returns-in-Refused-encrypt : goal.returns-in-Refused-encrypt
unfolding mesh_sealed
returns-in-Refused-encrypt c = let a = c.args in
    let l = a.lent.now in
    let e = sym c.in-Command.is in
    record { answer = ap (of_command_sealed a.packet) (sym c.in-Refused-encrypt.is ∙ c.encrypt-in-Command.ensures.answer) ∙ ap (λ (q : Payload). mesh_sealed a.key.0 l a.packet q a.out.now) e; bytes = c.encrypt-in-Command.ensures.bytes ∙ ap (λ (q : Payload). out_of (seal_of a.key.0 l q) a.out.now) e }
