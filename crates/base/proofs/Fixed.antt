-- Each public call of this crate has one outcome. Assumes nothing.
use mathlib.Core.Path.{refl, sym, ◌∙◌}
use Rattle.base.proofs.Outcome.{Fixed}
use Rattle.base.proofs.wide.Kinds as wide_kinds
use Rattle.base.proofs.wide.Reads as wide_reads
use Rattle.base.proofs.least.Kinds as least_kinds
use Rattle.base.proofs.least.Reads as least_reads

wide : Fixed 0 wide_kinds.ps wide_kinds.r wide_reads.Post
wide κs a x y v w p q = (p ∙ sym q, refl)

least : Fixed 0 least_kinds.ps least_kinds.r least_reads.Post
least κs a x y v w p q = (p ∙ sym q, refl)
