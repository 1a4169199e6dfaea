-- Each public call of this crate has one outcome. Assumes nothing.
use mathlib.Core.Path.{refl, sym, ◌∙◌}
use Rattle.base.proofs.Outcome.{Fixed}
use Rattle.cipher.proofs.prepare.Kinds as prepare_kinds
use Rattle.cipher.proofs.prepare.Reads as prepare_reads
use Rattle.cipher.proofs.encipher.Kinds as encipher_kinds
use Rattle.cipher.proofs.encipher.Reads as encipher_reads

prepare : Fixed 0 prepare_kinds.ps prepare_kinds.r prepare_reads.Post
prepare κs a x y v w p q = (p ∙ sym q, refl)

encipher : Fixed 1 encipher_kinds.ps encipher_kinds.r encipher_reads.Post
encipher κs a x y v w p q = (p ∙ sym q, refl)
