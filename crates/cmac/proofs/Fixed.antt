-- Each public call of this crate has one outcome. Assumes nothing.
use mathlib.Core.Path.{refl, sym, ◌∙◌}
use Rattle.base.proofs.Outcome.{Fixed}
use Rattle.cmac.proofs.subkey1.Kinds as subkey1_kinds
use Rattle.cmac.proofs.subkey1.Reads as subkey1_reads
use Rattle.cmac.proofs.subkey2.Kinds as subkey2_kinds
use Rattle.cmac.proofs.subkey2.Reads as subkey2_reads
use Rattle.cmac.proofs.absorb.Kinds as absorb_kinds
use Rattle.cmac.proofs.absorb.Reads as absorb_reads
use Rattle.cmac.proofs.finish.Kinds as finish_kinds
use Rattle.cmac.proofs.finish.Reads as finish_reads
use Rattle.cmac.proofs.tag.Kinds as tag_kinds
use Rattle.cmac.proofs.tag.Reads as tag_reads
use Rattle.cmac.proofs.cmac.Kinds as cmac_kinds
use Rattle.cmac.proofs.cmac.Reads as cmac_reads

subkey1 : Fixed 1 subkey1_kinds.ps subkey1_kinds.r subkey1_reads.Post
subkey1 κs a x y v w p q = (p ∙ sym q, refl)

subkey2 : Fixed 1 subkey2_kinds.ps subkey2_kinds.r subkey2_reads.Post
subkey2 κs a x y v w p q = (p ∙ sym q, refl)

absorb : Fixed 2 absorb_kinds.ps absorb_kinds.r absorb_reads.Post
absorb κs a x y v w p q = (p ∙ sym q, refl)

finish : Fixed 1 finish_kinds.ps finish_kinds.r finish_reads.Post
finish κs a x y v w p q = (p ∙ sym q, refl)

tag : Fixed 2 tag_kinds.ps tag_kinds.r tag_reads.Post
tag κs a x y v w p q = (p ∙ sym q, refl)

cmac : Fixed 1 cmac_kinds.ps cmac_kinds.r cmac_reads.Post
cmac κs a x y v w p q = (p ∙ sym q, refl)
