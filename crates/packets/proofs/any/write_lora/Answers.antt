-- `packets::any::write_lora` meets its contract. Assumes nothing.
use Rattle.base.specs.Answers.{bytes}
use Rattle.links.proofs.Steps.{same_frame}
use Rattle.packets.proofs.Steps.{lora_outside, lora_long, lora_bytes}
use mathlib.Core.Path.{sym, ap, ◌∙◌}
use Rattle.packets.proofs.any.write_lora.Goals as goal

pub returns-then-bad-ne0 : goal.returns-then-bad-ne0
returns-then-bad-ne0 c = (let both = lora_outside _ c.args.src.now c.args.run c.args.out.now c.refusal-bad.ensures c.if-bad-ne0.true in record { answer = both.0; bytes = both.1 })

pub returns-then-run-gt-FRAME : goal.returns-then-run-gt-FRAME
returns-then-run-gt-FRAME c = (let both = lora_long _ c.args.src.now c.args.run c.args.out.now c.refusal-bad.ensures c.if-bad-ne0.false c.if-run-gt-FRAME.true in record { answer = both.0; bytes = both.1 })

pub returns : goal.returns
returns c = (let both = same_frame _ _ _ _ _ (lora_bytes _ c.args.src.now c.args.run c.refusal-bad.ensures c.if-bad-ne0.false c.if-run-gt-FRAME.false ∙ ap bytes (sym c.bytes.ensures)) (c.emit.ensures.answer, c.emit.ensures.bytes) in record { answer = both.0; bytes = both.1 })
