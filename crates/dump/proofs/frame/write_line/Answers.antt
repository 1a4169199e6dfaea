-- `dump::frame::write_line` meets its contract. Assumes nothing.
use mathlib.Core.Path.{ap, ◌∙◌}
use lib.ListN.{length}
use Rattle.wire.specs.Lay.{put}
use Rattle.dump.proofs.Laws.Text.{put_kept, line_short, line_laid}
use Rattle.dump.proofs.frame.write_line.Goals as goal

pub returns-then-out-end : goal.returns-then-out-end
returns-then-out-end c = (let both = line_short _ _ _ _ _ _ _ _ _ _ _ _ (ap length c.label-label.ensures.value) c.width.ensures.value c.width-2.ensures.value (ap length c.odd_text-told.ensures.value) c.if-out-end.true in record { answer = both.0; bytes = both.1 })

pub shape_of-out : goal.shape_of-out
shape_of-out c = let p7 = c.before.before.before.before.before.before.before in
    let p15 = p7.before.before.before.before.before.before.before.before in
    let p24 = p15.before.before.before.before.before.before.before.before.before in
    let p32 = p24.before.before.before.before.before.before.before.before in
    let p38 = p32.before.before.before.before.before.before in
    put_kept _ _ _ _ c.put_all-6.ensures ∙ put_kept _ _ _ _ p7.put_all-5.ensures ∙ put_kept _ _ _ _ p7.put_all-4.ensures ∙ put_kept _ _ _ _ p15.put_four.ensures ∙ put_kept _ _ _ _ p15.put_all-3.ensures ∙ put_kept _ _ _ _ p24.put_decimal-2.ensures ∙ put_kept _ _ _ _ p24.put_all-2.ensures ∙ put_kept _ _ _ _ p32.put_decimal.ensures ∙ put_kept _ _ _ _ p32.put_all.ensures

pub returns : goal.returns
returns c = let p7 = c.before.before.before.before.before.before.before in
    let p15 = p7.before.before.before.before.before.before.before.before in
    let p24 = p15.before.before.before.before.before.before.before.before.before in
    let p32 = p24.before.before.before.before.before.before.before.before in
    let p38 = p32.before.before.before.before.before.before in
    (let both = line_laid _ _ _ _ _ _ _ _ _ _ _ _ (ap length p38.label-label.ensures.value) p38.width.ensures.value p38.width-2.ensures.value (ap length p38.odd_text-told.ensures.value) p38.if-out-end.false (p32.put_all.ensures ∙ ap (put _ _) p38.label-label.ensures.value) p32.put_decimal.ensures p24.put_all-2.ensures p24.put_decimal-2.ensures p15.put_all-3.ensures p15.put_four.ensures p7.put_all-4.ensures (p7.put_all-5.ensures ∙ ap (put _ _) p38.odd_text-told.ensures.value) c.put_all-6.ensures in record { answer = both.0; bytes = both.1 })
