-- `mesh_c::item::mesh_stream` meets its contract. Assumes nothing.
use lib.ListN.{length}
use mathlib.Core.Bool.{not}
use mathlib.Core.Path.{sym, ap, ◌∙◌}
use Rattle.base.specs.Answers.{answer_of, out_of, number_in, written_says}
use Rattle.base.specs.declared.Written.{Written}
use Rattle.base.proofs.Answers.{out_length}
use Rattle.keys.specs.declared.Aes128Key.{Aes128Key}
use Rattle.key_stream.specs.Stream.{sealed_of}
use Rattle.mesh_c.proofs.item.mesh_stream.Goals as goal

pub shape_of-out-in-Bytes : goal.shape_of-out-in-Bytes
shape_of-out-in-Bytes c = ap length c.encrypt_events_commands.ensures.bytes ∙ out_length _ _

pub returns-in-Bytes : goal.returns-in-Bytes
returns-in-Bytes c = let a = c.args in
    let e = c.from_bytes.ensures in record { answer = ap (λ (r : Written). number_in (written_says r)) (sym c.in-Bytes.is ∙ c.encrypt_events_commands.ensures.answer ∙ ap (λ (k : Aes128Key). answer_of (sealed_of k.0 (not a.is_command) a.relay_id a.timestamp a.payload.now) a.out.now) e); out = c.encrypt_events_commands.ensures.bytes ∙ ap (λ (k : Aes128Key). out_of (sealed_of k.0 (not a.is_command) a.relay_id a.timestamp a.payload.now) a.out.now) e }

pub shape_of-out-in-Refused : goal.shape_of-out-in-Refused
shape_of-out-in-Refused c = ap length c.encrypt_events_commands.ensures.bytes ∙ out_length _ _

pub returns-in-Refused : goal.returns-in-Refused
returns-in-Refused c = let a = c.args in
    let e = c.from_bytes.ensures in record { answer = ap (λ (r : Written). number_in (written_says r)) (sym c.in-Refused.is ∙ c.encrypt_events_commands.ensures.answer ∙ ap (λ (k : Aes128Key). answer_of (sealed_of k.0 (not a.is_command) a.relay_id a.timestamp a.payload.now) a.out.now) e); out = c.encrypt_events_commands.ensures.bytes ∙ ap (λ (k : Aes128Key). out_of (sealed_of k.0 (not a.is_command) a.relay_id a.timestamp a.payload.now) a.out.now) e }
