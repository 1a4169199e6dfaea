-- Each public call of this crate has one outcome. Assumes nothing.
use mathlib.Core.Path.{refl, sym, ap, ◌∙◌}
use mathlib.Core.List.{List}
use Prim.Native.Nat.{ℕ}
use Rattle.base.proofs.Outcome.{Fixed}
use Rattle.events.proofs.stamped.EventPayload.read_at.Kinds as event_payload_read_at_kinds
use Rattle.events.proofs.stamped.EventPayload.read_at.Reads as event_payload_read_at_reads
use Rattle.events.proofs.stamped.EventPayload.from_slice.Kinds as event_payload_from_slice_kinds
use Rattle.events.proofs.stamped.EventPayload.from_slice.Reads as event_payload_from_slice_reads
use Rattle.events.proofs.stamped.EventPayload.head.Kinds as event_payload_head_kinds
use Rattle.events.proofs.stamped.EventPayload.head.Reads as event_payload_head_reads
use Rattle.events.proofs.stamped.EventPayload.write.Kinds as event_payload_write_kinds
use Rattle.events.proofs.stamped.EventPayload.write.Reads as event_payload_write_reads
use Rattle.events.proofs.stamped.EventPayload.write_in.Kinds as event_payload_write_in_kinds
use Rattle.events.proofs.stamped.EventPayload.write_in.Reads as event_payload_write_in_reads
use Rattle.events.proofs.stamped.CommandPayload.read_at.Kinds as command_payload_read_at_kinds
use Rattle.events.proofs.stamped.CommandPayload.read_at.Reads as command_payload_read_at_reads
use Rattle.events.proofs.stamped.CommandPayload.from_slice.Kinds as command_payload_from_slice_kinds
use Rattle.events.proofs.stamped.CommandPayload.from_slice.Reads as command_payload_from_slice_reads
use Rattle.events.proofs.stamped.CommandPayload.head.Kinds as command_payload_head_kinds
use Rattle.events.proofs.stamped.CommandPayload.head.Reads as command_payload_head_reads
use Rattle.events.proofs.stamped.CommandPayload.write.Kinds as command_payload_write_kinds
use Rattle.events.proofs.stamped.CommandPayload.write.Reads as command_payload_write_reads
use Rattle.events.proofs.stamped.CommandPayload.write_in.Kinds as command_payload_write_in_kinds
use Rattle.events.proofs.stamped.CommandPayload.write_in.Reads as command_payload_write_in_reads

event_payload_read_at : Fixed 1 event_payload_read_at_kinds.ps event_payload_read_at_kinds.r event_payload_read_at_reads.Post
event_payload_read_at κs a x y v w p q = (p ∙ sym q, refl)

event_payload_from_slice : Fixed 1 event_payload_from_slice_kinds.ps event_payload_from_slice_kinds.r event_payload_from_slice_reads.Post
event_payload_from_slice κs a x y v w p q = (p ∙ sym q, refl)

event_payload_head : Fixed 0 event_payload_head_kinds.ps event_payload_head_kinds.r event_payload_head_reads.Post
event_payload_head κs a x y v w p q = (p ∙ sym q, refl)

event_payload_write : Fixed 3 event_payload_write_kinds.ps event_payload_write_kinds.r event_payload_write_reads.Post
event_payload_write κs a x y v w p q = (p.0 ∙ sym q.0, ap (λ (l : List ℕ). (tt, (tt, (l, tt)))) (p.1 ∙ sym q.1))

event_payload_write_in : Fixed 3 event_payload_write_in_kinds.ps event_payload_write_in_kinds.r event_payload_write_in_reads.Post
event_payload_write_in κs a x y v w p q = (p.0 ∙ sym q.0, ap (λ (l : List ℕ). (tt, (tt, (tt, (tt, (tt, (l, tt))))))) (p.1 ∙ sym q.1))

command_payload_read_at : Fixed 1 command_payload_read_at_kinds.ps command_payload_read_at_kinds.r command_payload_read_at_reads.Post
command_payload_read_at κs a x y v w p q = (p ∙ sym q, refl)

command_payload_from_slice : Fixed 1 command_payload_from_slice_kinds.ps command_payload_from_slice_kinds.r command_payload_from_slice_reads.Post
command_payload_from_slice κs a x y v w p q = (p ∙ sym q, refl)

command_payload_head : Fixed 0 command_payload_head_kinds.ps command_payload_head_kinds.r command_payload_head_reads.Post
command_payload_head κs a x y v w p q = (p ∙ sym q, refl)

command_payload_write : Fixed 3 command_payload_write_kinds.ps command_payload_write_kinds.r command_payload_write_reads.Post
command_payload_write κs a x y v w p q = (p.0 ∙ sym q.0, ap (λ (l : List ℕ). (tt, (tt, (l, tt)))) (p.1 ∙ sym q.1))

command_payload_write_in : Fixed 3 command_payload_write_in_kinds.ps command_payload_write_in_kinds.r command_payload_write_in_reads.Post
command_payload_write_in κs a x y v w p q = (p.0 ∙ sym q.0, ap (λ (l : List ℕ). (tt, (tt, (tt, (tt, (tt, (l, tt))))))) (p.1 ∙ sym q.1))
