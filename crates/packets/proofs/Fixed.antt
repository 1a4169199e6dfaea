-- Each public call of this crate has one outcome. Assumes nothing.
use mathlib.Core.Path.{refl, sym, ap, ◌∙◌}
use mathlib.Core.List.{List}
use Prim.Native.Nat.{ℕ}
use Rattle.base.proofs.Outcome.{Fixed}
use Rattle.packets.proofs.any.Packet.from_slice.Kinds as packet_from_slice_kinds
use Rattle.packets.proofs.any.Packet.from_slice.Reads as packet_from_slice_reads
use Rattle.packets.proofs.any.Packet.write.Kinds as packet_write_kinds
use Rattle.packets.proofs.any.Packet.write.Reads as packet_write_reads
use Rattle.packets.proofs.mesh.Payload.kinds_refusal.Kinds as payload_kinds_refusal_kinds
use Rattle.packets.proofs.mesh.Payload.kinds_refusal.Reads as payload_kinds_refusal_reads
use Rattle.packets.proofs.mesh.MeshPacket.from_slice.Kinds as mesh_packet_from_slice_kinds
use Rattle.packets.proofs.mesh.MeshPacket.from_slice.Reads as mesh_packet_from_slice_reads
use Rattle.packets.proofs.mesh.MeshPacket.write.Kinds as mesh_packet_write_kinds
use Rattle.packets.proofs.mesh.MeshPacket.write.Reads as mesh_packet_write_reads

packet_from_slice : Fixed 1 packet_from_slice_kinds.ps packet_from_slice_kinds.r packet_from_slice_reads.Post
packet_from_slice κs a x y v w p q = (p ∙ sym q, refl)

packet_write : Fixed 3 packet_write_kinds.ps packet_write_kinds.r packet_write_reads.Post
packet_write κs a x y v w p q = (p.0 ∙ sym q.0, ap (λ (l : List ℕ). (tt, (tt, (l, tt)))) (p.1 ∙ sym q.1))

payload_kinds_refusal : Fixed 2 payload_kinds_refusal_kinds.ps payload_kinds_refusal_kinds.r payload_kinds_refusal_reads.Post
payload_kinds_refusal κs a x y v w p q = (p ∙ sym q, refl)

mesh_packet_from_slice : Fixed 1 mesh_packet_from_slice_kinds.ps mesh_packet_from_slice_kinds.r mesh_packet_from_slice_reads.Post
mesh_packet_from_slice κs a x y v w p q = (p ∙ sym q, refl)

mesh_packet_write : Fixed 3 mesh_packet_write_kinds.ps mesh_packet_write_kinds.r mesh_packet_write_reads.Post
mesh_packet_write κs a x y v w p q = (p.0 ∙ sym q.0, ap (λ (l : List ℕ). (tt, (tt, (l, tt)))) (p.1 ∙ sym q.1))
