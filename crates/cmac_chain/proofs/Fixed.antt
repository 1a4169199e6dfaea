-- Each public call of this crate has one outcome. Assumes nothing.
use mathlib.Core.Path.{refl, sym, ◌∙◌}
use Rattle.base.proofs.Outcome.{Fixed}
use Rattle.cmac_chain.proofs.double.Kinds as double_kinds
use Rattle.cmac_chain.proofs.double.Reads as double_reads
use Rattle.cmac_chain.proofs.Mac.start.Kinds as start_kinds
use Rattle.cmac_chain.proofs.Mac.start.Reads as start_reads
use Rattle.cmac_chain.proofs.add.Kinds as add_kinds
use Rattle.cmac_chain.proofs.add.Reads as add_reads
use Rattle.cmac_chain.proofs.Mac.fill.Kinds as fill_kinds
use Rattle.cmac_chain.proofs.Mac.fill.Reads as fill_reads

double : Fixed 0 double_kinds.ps double_kinds.r double_reads.Post
double κs a x y v w p q = (p ∙ sym q, refl)

start : Fixed 0 start_kinds.ps start_kinds.r start_reads.Post
start κs a x y v w p q = (p ∙ sym q, refl)

add : Fixed 1 add_kinds.ps add_kinds.r add_reads.Post
add κs a x y v w p q = (p ∙ sym q, refl)

fill : Fixed 1 fill_kinds.ps fill_kinds.r fill_reads.Post
fill κs a x y v w p q = (p ∙ sym q, refl)
