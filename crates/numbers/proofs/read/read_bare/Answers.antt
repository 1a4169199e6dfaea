-- `numbers::read::read_bare` meets its contract. Assumes nothing.
use mathlib.Core.Path.{sym, ap, ◌∙◌}
use Rattle.numbers.specs.Numbers.{bare_by}
use Rattle.numbers.proofs.Steps.{kept, same}
use Rattle.numbers.proofs.read.read_bare.Goals as goal

pub returns-in-Refused : goal.returns-in-Refused
returns-in-Refused c =
    (let both = kept _ _ _ _ _ (ap (bare_by c.args.b.now) (sym c.from_byte.ensures ∙ c.in-Refused.is)) in record { answer = both.0; numbers = both.1.0; rssi = both.1.1.0; snr = both.1.1.1 })

pub returns-in-Kind : goal.returns-in-Kind
returns-in-Kind c =
    (let both = same _ _ _ _ _ _ _ _ _ (ap (bare_by c.args.b.now) (sym c.from_byte.ensures ∙ c.in-Kind.is)) (c.read_part.ensures.answer, (c.read_part.ensures.numbers, (c.read_part.ensures.rssi, c.read_part.ensures.snr))) in record { answer = both.0; numbers = both.1.0; rssi = both.1.1.0; snr = both.1.1.1 })
