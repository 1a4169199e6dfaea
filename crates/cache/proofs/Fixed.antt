-- Each public call of this crate has one outcome. Assumes nothing.
use mathlib.Core.Path.{refl, sym, ap, ◌∙◌}
use Rattle.base.proofs.Outcome.{Fixed}
use Rattle.cache.specs.declared.ring.Cache.{Cache}
use Rattle.cache.proofs.record.PayloadCache.from_packet.Kinds as from_packet_kinds
use Rattle.cache.proofs.record.PayloadCache.from_packet.Reads as from_packet_reads
use Rattle.cache.proofs.record.PayloadCacheFromMeshPacket.from.Kinds as from_kinds
use Rattle.cache.proofs.record.PayloadCacheFromMeshPacket.from.Reads as from_reads
use Rattle.cache.proofs.record.PayloadCache.same.Kinds as same_kinds
use Rattle.cache.proofs.record.PayloadCache.same.Reads as same_Reads
use Rattle.cache.proofs.record.PayloadCache.pack.Kinds as pack_kinds
use Rattle.cache.proofs.record.PayloadCache.pack.Reads as pack_reads
use Rattle.cache.proofs.record.PayloadCache.unpack.Kinds as unpack_kinds
use Rattle.cache.proofs.record.PayloadCache.unpack.Reads as unpack_reads
use Rattle.cache.proofs.ring.Cache.new.Kinds as new_kinds
use Rattle.cache.proofs.ring.Cache.new.Reads as new_reads
use Rattle.cache.proofs.ring.Cache.added.Kinds as added_kinds
use Rattle.cache.proofs.ring.Cache.added.Reads as added_reads
use Rattle.cache.proofs.ring.Cache.add.Kinds as add_kinds
use Rattle.cache.proofs.ring.Cache.add.Reads as add_reads

from_packet : Fixed 0 from_packet_kinds.ps from_packet_kinds.r from_packet_reads.Post
from_packet κs a x y v w p q = (p ∙ sym q, refl)

from_lem : Fixed 0 from_kinds.ps from_kinds.r from_reads.Post
from_lem κs a x y v w p q = (p ∙ sym q, refl)

same : Fixed 0 same_kinds.ps same_kinds.r same_Reads.Post
same κs a x y v w p q = (p ∙ sym q, refl)

pack : Fixed 0 pack_kinds.ps pack_kinds.r pack_reads.Post
pack κs a x y v w p q = (p ∙ sym q, refl)

unpack : Fixed 0 unpack_kinds.ps unpack_kinds.r unpack_reads.Post
unpack κs a x y v w p q = (p ∙ sym q, refl)

new : Fixed 0 new_kinds.ps new_kinds.r new_reads.Post
new κs a x y v w p q = (p ∙ sym q, refl)

added : Fixed 0 added_kinds.ps added_kinds.r added_reads.Post
added κs a x y v w p q = (p ∙ sym q, refl)

add : Fixed 1 add_kinds.ps add_kinds.r add_reads.Post
add κs a x y v w p q = (p.0 ∙ sym q.0, ap (λ (c : Cache). (c, (tt, tt))) (p.1 ∙ sym q.1))
