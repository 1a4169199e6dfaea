-- `dump::line::dump_line` meets its contract. Assumes nothing.
use mathlib.Core.Path.{sym, ap, ◌∙◌}
use Rattle.base.specs.Answers.{bytes}
use Rattle.links.proofs.Steps.{same_frame}
use Rattle.dump.specs.Dump.{frame_text}
use Rattle.dump.proofs.Laws.Text.{line_bad, line_good, line_none, line_long, line_frame}
use Rattle.dump.proofs.line.dump_line.Goals as goal

pub returns-then-bad : goal.returns-then-bad
returns-then-bad c = (let both = same_frame _ _ _ _ _ (ap bytes (line_bad _ (sym c.bad_hex-bad.ensures ∙ c.if-bad.true))) (c.write_refused.ensures.answer, c.write_refused.ensures.bytes) in record { answer = both.0; bytes = both.1 })

pub returns-then-n-eq0 : goal.returns-then-n-eq0
returns-then-n-eq0 c = (let both = same_frame _ _ _ _ _ (ap bytes (line_none _ (sym c.bad_hex-bad.ensures ∙ c.if-bad.false) c.if-n-eq0.true)) (c.write_refused-then-n-eq0.ensures.answer, c.write_refused-then-n-eq0.ensures.bytes) in record { answer = both.0; bytes = both.1 })

pub returns-then-n-gt-FRAME : goal.returns-then-n-gt-FRAME
returns-then-n-gt-FRAME c = (let both = same_frame _ _ _ _ _ (ap bytes (line_long _ (sym c.bad_hex-bad.ensures ∙ c.if-bad.false) c.if-n-gt-FRAME.true)) (c.write_refused-then-n-gt-FRAME.ensures.answer, c.write_refused-then-n-gt-FRAME.ensures.bytes) in record { answer = both.0; bytes = both.1 })

pub returns : goal.returns
returns c = let p9 = c.before.before.before.before.before.before.before.before.before in
    let s = p9.args.line.now in
    (let both = same_frame _ _ _ _ _ (ap bytes (line_good s (sym p9.bad_hex-bad.ensures ∙ p9.if-bad.false) ∙ ap frame_text (sym (line_frame s _ _ p9.if-n-gt-FRAME.false c.read_hex.ensures c.part.ensures)))) (c.dump_frame.ensures.answer, c.dump_frame.ensures.bytes) in record { answer = both.0; bytes = both.1 })
