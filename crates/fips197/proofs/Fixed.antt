-- Each public call of this crate has one outcome. Assumes nothing.
use mathlib.Core.Path.{refl, sym, ◌∙◌}
use Rattle.base.proofs.Outcome.{Fixed}
use Rattle.fips197.proofs.sbox_table.Kinds as sbox_table_kinds
use Rattle.fips197.proofs.sbox_table.Reads as sbox_table_reads
use Rattle.fips197.proofs.times2.Kinds as times2_kinds
use Rattle.fips197.proofs.times2.Reads as times2_reads

sbox_table_lem : Fixed 0 sbox_table_kinds.ps sbox_table_kinds.r sbox_table_reads.Post
sbox_table_lem κs a x y v w p q = (p ∙ sym q, refl)

times2 : Fixed 0 times2_kinds.ps times2_kinds.r times2_reads.Post
times2 κs a x y v w p q = (p ∙ sym q, refl)
