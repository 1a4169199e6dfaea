-- `mesh_c::key::mesh_key_text` meets its contract. Assumes nothing.
use lib.ListN.{length}
use mathlib.Core.Path.{sym, ap, ◌∙◌}
use Rattle.base.specs.Answers.{bytes, answer_of, out_of, number_in, written_says}
use Rattle.base.specs.declared.Written.{Written}
use Rattle.base.proofs.Answers.{out_length}
use Rattle.wire.specs.Hex.{hex_text}
use Rattle.keys.specs.declared.Aes128Key.{Aes128Key}
use Rattle.mesh_c.proofs.key.mesh_key_text.Goals as goal

pub shape_of-out-in-Bytes : goal.shape_of-out-in-Bytes
shape_of-out-in-Bytes c = ap length c.write_text.ensures.bytes ∙ out_length _ _

pub returns-in-Bytes : goal.returns-in-Bytes
returns-in-Bytes c =
    let a = c.args in
    let e = c.from_bytes.ensures in record { answer = ap (λ (r : Written). number_in (written_says r)) (sym c.in-Bytes.is ∙ c.write_text.ensures.answer ∙ ap (λ (k : Aes128Key). answer_of (bytes (hex_text k.0)) a.out.now) e); out = c.write_text.ensures.bytes ∙ ap (λ (k : Aes128Key). out_of (bytes (hex_text k.0)) a.out.now) e }

pub shape_of-out-in-Refused : goal.shape_of-out-in-Refused
shape_of-out-in-Refused c = ap length c.write_text.ensures.bytes ∙ out_length _ _

pub returns-in-Refused : goal.returns-in-Refused
returns-in-Refused c =
    let a = c.args in
    let e = c.from_bytes.ensures in record { answer = ap (λ (r : Written). number_in (written_says r)) (sym c.in-Refused.is ∙ c.write_text.ensures.answer ∙ ap (λ (k : Aes128Key). answer_of (bytes (hex_text k.0)) a.out.now) e); out = c.write_text.ensures.bytes ∙ ap (λ (k : Aes128Key). out_of (bytes (hex_text k.0)) a.out.now) e }
