-- Each public call of this crate has one outcome. Assumes nothing.
use mathlib.Core.Path.{refl, sym, ◌∙◌}
use Rattle.base.proofs.Outcome.{Fixed}
use Rattle.derivation.proofs.encrypt_block.Kinds as encrypt_block_kinds
use Rattle.derivation.proofs.encrypt_block.Reads as encrypt_block_reads
use Rattle.derivation.proofs.derive.Kinds as derive_kinds
use Rattle.derivation.proofs.derive.Reads as derive_reads
use Rattle.derivation.proofs.get_signing_key.Kinds as get_signing_key_kinds
use Rattle.derivation.proofs.get_signing_key.Reads as get_signing_key_reads
use Rattle.derivation.proofs.get_encryption_key.Kinds as get_encryption_key_kinds
use Rattle.derivation.proofs.get_encryption_key.Reads as get_encryption_key_reads

encrypt_block : Fixed 0 encrypt_block_kinds.ps encrypt_block_kinds.r encrypt_block_reads.Post
encrypt_block κs a x y v w p q = (p ∙ sym q, refl)

derive : Fixed 1 derive_kinds.ps derive_kinds.r derive_reads.Post
derive κs a x y v w p q = (p ∙ sym q, refl)

get_signing_key : Fixed 0 get_signing_key_kinds.ps get_signing_key_kinds.r get_signing_key_reads.Post
get_signing_key κs a x y v w p q = (p ∙ sym q, refl)

get_encryption_key : Fixed 0 get_encryption_key_kinds.ps get_encryption_key_kinds.r get_encryption_key_reads.Post
get_encryption_key κs a x y v w p q = (p ∙ sym q, refl)
