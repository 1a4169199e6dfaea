-- `mesh_c::field::mesh_frequency_read` meets its contract. Assumes nothing.
use mathlib.Core.Path.{sym, ap, ◌∙◌}
use Rattle.base.specs.Answers.{number_in, left_by}
use Rattle.fields.specs.Freq.{freq_says}
use Rattle.fields.specs.declared.freq.FreqRead.{FreqRead}
use Rattle.mesh_c.specs.Face.{as_it_is}
use Rattle.mesh_c.proofs.field.mesh_frequency_read.Goals as goal

pub returns-in-Refused : goal.returns-in-Refused
returns-in-Refused c =
    let e = sym c.in-Refused.is ∙ c.decode_freq.ensures in record { answer = ap (λ (r : FreqRead). number_in (freq_says r)) e; hertz = ap (λ (r : FreqRead). left_by as_it_is c.args.hertz.now (freq_says r)) e }

pub returns-in-Hertz : goal.returns-in-Hertz
returns-in-Hertz c =
    let e = sym c.in-Hertz.is ∙ c.decode_freq.ensures in record { answer = ap (λ (r : FreqRead). number_in (freq_says r)) e; hertz = ap (λ (r : FreqRead). left_by as_it_is c.args.hertz.now (freq_says r)) e }
