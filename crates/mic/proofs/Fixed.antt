-- Each public call of this crate has one outcome. Assumes nothing.
use mathlib.Core.Path.{refl, sym, ◌∙◌}
use Rattle.base.proofs.Outcome.{Fixed}
use Rattle.mic.proofs.set_mic.Kinds as set_mic_kinds
use Rattle.mic.proofs.set_mic.Reads as set_mic_reads
use Rattle.mic.proofs.validate_mic.Kinds as validate_mic_kinds
use Rattle.mic.proofs.validate_mic.Reads as validate_mic_reads

set_mic_lem : Fixed 2 set_mic_kinds.ps set_mic_kinds.r set_mic_reads.Post
set_mic_lem κs a x y v w p q = (p ∙ sym q, refl)

validate_mic_lem : Fixed 2 validate_mic_kinds.ps validate_mic_kinds.r validate_mic_reads.Post
validate_mic_lem κs a x y v w p q = (p ∙ sym q, refl)
