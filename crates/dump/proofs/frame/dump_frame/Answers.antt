-- `dump::frame::dump_frame` meets its contract. Assumes nothing.
use mathlib.Core.Path.{sym, ap, ◌∙◌}
use native.Mathlib.Omega.{arith}
use Rattle.packets.specs.declared.any.PacketRead.TheVariants.{Packet as PacketIs}
use Rattle.links.proofs.Steps.{same_frame}
use Rattle.base.specs.Answers.{bytes}
use Rattle.dump.proofs.Laws.Text.{text_of, lora_most}
use Rattle.dump.proofs.frame.dump_frame.Goals as goal

pub overflow_cast-run : goal.overflow_cast-run
overflow_cast-run c = let h = lora_most _ _ (ap PacketIs (sym c.in-Lora.is) ∙ sym c.in-Packet.is ∙ c.from_slice.ensures) in
    record { fits = omega arith }

pub returns-in-Refused : goal.returns-in-Refused
returns-in-Refused c = (let both = same_frame _ _ _ _ _ (ap bytes (text_of _ _ (sym c.in-Refused.is ∙ c.from_slice.ensures))) (c.write_refused.ensures.answer, c.write_refused.ensures.bytes) in record { answer = both.0; bytes = both.1 })

pub returns-in-Lora : goal.returns-in-Lora
returns-in-Lora c = (let both = same_frame _ _ _ _ _ (ap bytes (text_of _ _ (ap PacketIs (sym c.in-Lora.is) ∙ sym c.in-Packet.is ∙ c.from_slice.ensures))) (c.write_counted.ensures.answer, c.write_counted.ensures.bytes) in record { answer = both.0; bytes = both.1 })

pub returns-in-Mesh : goal.returns-in-Mesh
returns-in-Mesh c = (let both = same_frame _ _ _ _ _ (ap bytes (text_of _ _ (ap PacketIs (sym c.in-Mesh.is) ∙ sym c.in-Packet.is ∙ c.from_slice.ensures))) (c.write_text.ensures.answer, c.write_text.ensures.bytes) in record { answer = both.0; bytes = both.1 })
