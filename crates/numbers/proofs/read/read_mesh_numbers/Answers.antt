-- `numbers::read::read_mesh_numbers` meets its contract. Assumes nothing.
use mathlib.Core.Path.{sym, ◌∙◌}
use Rattle.numbers.proofs.Steps.{kept, same, mesh_empty, mesh_long, mesh_short, no_header, with_header_lem}
use Rattle.numbers.proofs.read.read_mesh_numbers.Goals as goal

pub returns-then-n-eq0 : goal.returns-then-n-eq0
returns-then-n-eq0 c =
    (let both = kept _ 1 _ _ _ (mesh_empty c.args.frame.now c.if-n-eq0.true) in record { answer = both.0; numbers = both.1.0; rssi = both.1.1.0; snr = both.1.1.1 })

pub returns-then-n-gt-FRAME : goal.returns-then-n-gt-FRAME
returns-then-n-gt-FRAME c =
    (let both = kept _ 5 _ _ _ (mesh_long c.args.frame.now c.if-n-eq0.false c.if-n-gt-FRAME.true) in record { answer = both.0; numbers = both.1.0; rssi = both.1.1.0; snr = both.1.1.1 })

pub returns-then-n-lt-LEAST : goal.returns-then-n-lt-LEAST
returns-then-n-lt-LEAST c =
    (let both = kept _ 2 _ _ _ (mesh_short c.args.frame.now c.if-n-eq0.false c.if-n-gt-FRAME.false c.if-n-lt-LEAST.true) in record { answer = both.0; numbers = both.1.0; rssi = both.1.1.0; snr = both.1.1.1 })

pub returns-in-Refused : goal.returns-in-Refused
returns-in-Refused c =
    (let both = kept _ _ _ _ _ (no_header c.args.frame.now c.if-n-eq0.false c.if-n-gt-FRAME.false c.if-n-lt-LEAST.false _ (sym c.in-Refused.is ∙ c.from_byte.ensures)) in record { answer = both.0; numbers = both.1.0; rssi = both.1.1.0; snr = both.1.1.1 })

pub returns-in-Header : goal.returns-in-Header
returns-in-Header c =
    (let both = same _ _ _ _ _ _ _ _ _ (with_header_lem c.args.frame.now c.if-n-eq0.false c.if-n-gt-FRAME.false c.if-n-lt-LEAST.false _ _ (sym c.in-Header.is ∙ c.from_byte.ensures) c.be32_of-mic.ensures) (c.read_part.ensures.answer, (c.read_part.ensures.numbers, (c.read_part.ensures.rssi, c.read_part.ensures.snr))) in record { answer = both.0; numbers = both.1.0; rssi = both.1.1.0; snr = both.1.1.1 })
