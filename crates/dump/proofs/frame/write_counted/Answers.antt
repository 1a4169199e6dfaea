-- `dump::frame::write_counted` meets its contract. Assumes nothing.
use Rattle.dump.proofs.Laws.Text.{counted_short, counted_laid}
use Rattle.dump.proofs.frame.write_counted.Goals as goal

pub returns-then-out-b : goal.returns-then-out-b
returns-then-out-b c = (let both = counted_short c.args.word.now _ _ _ c.width.ensures.value c.if-out-b.true in record { answer = both.0; bytes = both.1 })

pub returns : goal.returns
returns c = (let both = counted_laid c.args.word.now _ _ _ c.width.ensures.value c.if-out-b.false _ _ c.put_all.ensures c.put_decimal.ensures in record { answer = both.0; bytes = both.1 })
