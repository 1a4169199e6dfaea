-- `mesh_c::frame::mesh_set_hop_count` meets its contract. Assumes nothing.
use mathlib.Core.Path.{sym, ap, ◌∙◌}
use Rattle.base.specs.Answers.{checked_of, checked_number}
use Rattle.fips197.specs.Aes.{aes}
use Rattle.keys.specs.declared.Aes128Key.{Aes128Key}
use Rattle.hops.specs.Hops.{hop_edit, leaves}
use Rattle.mesh_c.proofs.frame.mesh_set_hop_count.Goals as goal

pub returns-in-Accepted : goal.returns-in-Accepted
returns-in-Accepted c = let a = c.args in
    let e = c.from_bytes.ensures in record { answer = ap checked_number (sym c.in-Accepted.is ∙ c.set_hop_count.ensures.answer ∙ ap (λ (k : Aes128Key). checked_of (hop_edit (aes k.0) a.frame.now a.hop_count)) e); frame = c.set_hop_count.ensures.bytes ∙ ap (λ (k : Aes128Key). leaves (hop_edit (aes k.0) a.frame.now a.hop_count) a.frame.now) e }

pub returns-in-Refused : goal.returns-in-Refused
returns-in-Refused c = let a = c.args in
    let e = c.from_bytes.ensures in record { answer = ap checked_number (sym c.in-Refused.is ∙ c.set_hop_count.ensures.answer ∙ ap (λ (k : Aes128Key). checked_of (hop_edit (aes k.0) a.frame.now a.hop_count)) e); frame = c.set_hop_count.ensures.bytes ∙ ap (λ (k : Aes128Key). leaves (hop_edit (aes k.0) a.frame.now a.hop_count) a.frame.now) e }
