-- Each public call of this crate has one outcome. Assumes nothing.
use mathlib.Core.Path.{refl, sym, ap, ap₂, ◌∙◌}
use mathlib.Core.List.{List}
use Prim.Native.Nat.{ℕ}
use Rattle.base.specs.declared.Checked.{Checked}
use Rattle.base.proofs.Outcome.{Fixed}
use Rattle.links.specs.declared.uplink.UplinkHead.{UplinkHead}
use Rattle.links.specs.declared.downlink.DownlinkHead.{DownlinkHead}
use Rattle.links.proofs.uplink.UplinkPayload.read_at.Kinds as uplink_read_at_kinds
use Rattle.links.proofs.uplink.UplinkPayload.read_at.Reads as uplink_read_at_reads
use Rattle.links.proofs.uplink.UplinkPayload.from_slice.Kinds as uplink_from_slice_kinds
use Rattle.links.proofs.uplink.UplinkPayload.from_slice.Reads as uplink_from_slice_reads
use Rattle.links.proofs.uplink.UplinkPayload.head.Kinds as uplink_head_kinds
use Rattle.links.proofs.uplink.UplinkPayload.head.Reads as uplink_head_reads
use Rattle.links.proofs.uplink.UplinkPayload.write.Kinds as uplink_write_kinds
use Rattle.links.proofs.uplink.UplinkPayload.write.Reads as uplink_write_reads
use Rattle.links.proofs.uplink.UplinkPayload.write_in.Kinds as uplink_write_in_kinds
use Rattle.links.proofs.uplink.UplinkPayload.write_in.Reads as uplink_write_in_reads
use Rattle.links.proofs.downlink.DownlinkPayload.read_at.Kinds as downlink_read_at_kinds
use Rattle.links.proofs.downlink.DownlinkPayload.read_at.Reads as downlink_read_at_reads
use Rattle.links.proofs.downlink.DownlinkPayload.from_slice.Kinds as downlink_from_slice_kinds
use Rattle.links.proofs.downlink.DownlinkPayload.from_slice.Reads as downlink_from_slice_reads
use Rattle.links.proofs.downlink.DownlinkPayload.head.Kinds as downlink_head_kinds
use Rattle.links.proofs.downlink.DownlinkPayload.head.Reads as downlink_head_reads
use Rattle.links.proofs.downlink.DownlinkPayload.write.Kinds as downlink_write_kinds
use Rattle.links.proofs.downlink.DownlinkPayload.write.Reads as downlink_write_reads
use Rattle.links.proofs.downlink.DownlinkPayload.write_in.Kinds as downlink_write_in_kinds
use Rattle.links.proofs.downlink.DownlinkPayload.write_in.Reads as downlink_write_in_reads
use Rattle.links.proofs.emit.write_body.Kinds as write_body_kinds
use Rattle.links.proofs.emit.write_body.Reads as write_body_reads
use Rattle.links.proofs.emit.write_frame.Kinds as write_frame_kinds
use Rattle.links.proofs.emit.write_frame.Reads as write_frame_reads

uplink_read_at : Fixed 1 uplink_read_at_kinds.ps uplink_read_at_kinds.r uplink_read_at_reads.Post
uplink_read_at κs a x y v w p q = (p ∙ sym q, refl)

uplink_from_slice : Fixed 1 uplink_from_slice_kinds.ps uplink_from_slice_kinds.r uplink_from_slice_reads.Post
uplink_from_slice κs a x y v w p q = (p ∙ sym q, refl)

uplink_head_lem : Fixed 0 uplink_head_kinds.ps uplink_head_kinds.r uplink_head_reads.Post
uplink_head_lem κs a x y v w p q = (ap₂ {C = UplinkHead} (λ (m : Checked) (l : List ℕ). record { answer = m; bytes = l }) (p.0 ∙ sym q.0) (p.1 ∙ sym q.1), refl)

uplink_write : Fixed 2 uplink_write_kinds.ps uplink_write_kinds.r uplink_write_reads.Post
uplink_write κs a x y v w p q = (p.0 ∙ sym q.0, ap (λ (l : List ℕ). (tt, (tt, (l, tt)))) (p.1 ∙ sym q.1))

uplink_write_in : Fixed 2 uplink_write_in_kinds.ps uplink_write_in_kinds.r uplink_write_in_reads.Post
uplink_write_in κs a x y v w p q = (p.0 ∙ sym q.0, ap (λ (l : List ℕ). (tt, (tt, (tt, (tt, (tt, (l, tt))))))) (p.1 ∙ sym q.1))

downlink_read_at : Fixed 1 downlink_read_at_kinds.ps downlink_read_at_kinds.r downlink_read_at_reads.Post
downlink_read_at κs a x y v w p q = (p ∙ sym q, refl)

downlink_from_slice : Fixed 1 downlink_from_slice_kinds.ps downlink_from_slice_kinds.r downlink_from_slice_reads.Post
downlink_from_slice κs a x y v w p q = (p ∙ sym q, refl)

downlink_head_lem : Fixed 0 downlink_head_kinds.ps downlink_head_kinds.r downlink_head_reads.Post
downlink_head_lem κs a x y v w p q = (ap₂ {C = DownlinkHead} (λ (m : Checked) (l : List ℕ). record { answer = m; bytes = l }) (p.0 ∙ sym q.0) (p.1 ∙ sym q.1), refl)

downlink_write : Fixed 2 downlink_write_kinds.ps downlink_write_kinds.r downlink_write_reads.Post
downlink_write κs a x y v w p q = (p.0 ∙ sym q.0, ap (λ (l : List ℕ). (tt, (tt, (l, tt)))) (p.1 ∙ sym q.1))

downlink_write_in : Fixed 2 downlink_write_in_kinds.ps downlink_write_in_kinds.r downlink_write_in_reads.Post
downlink_write_in κs a x y v w p q = (p.0 ∙ sym q.0, ap (λ (l : List ℕ). (tt, (tt, (tt, (tt, (tt, (l, tt))))))) (p.1 ∙ sym q.1))

write_body : Fixed 3 write_body_kinds.ps write_body_kinds.r write_body_reads.Post
write_body κs a x y v w p q = (p.0 ∙ sym q.0, ap (λ (l : List ℕ). (tt, (tt, (l, tt)))) (p.1 ∙ sym q.1))

write_frame : Fixed 3 write_frame_kinds.ps write_frame_kinds.r write_frame_reads.Post
write_frame κs a x y v w p q = (p.0 ∙ sym q.0, ap (λ (l : List ℕ). (tt, (tt, (tt, (tt, (tt, (l, tt))))))) (p.1 ∙ sym q.1))
