-- Each public call of this crate has one outcome. Assumes nothing.
use mathlib.Core.Path.{refl, sym, ap, ◌∙◌}
use mathlib.Core.List.{List}
use Prim.Native.Nat.{ℕ}
use Rattle.base.proofs.Outcome.{Fixed}
use Rattle.sealing.proofs.content.decrypt.Kinds as content_decrypt_kinds
use Rattle.sealing.proofs.content.decrypt.Reads as content_decrypt_reads
use Rattle.sealing.proofs.content.decode.Kinds as content_decode_kinds
use Rattle.sealing.proofs.content.decode.Reads as content_decode_reads
use Rattle.sealing.proofs.event.encrypt.Kinds as event_encrypt_kinds
use Rattle.sealing.proofs.event.encrypt.Reads as event_encrypt_reads
use Rattle.sealing.proofs.event.decrypt.Kinds as event_decrypt_kinds
use Rattle.sealing.proofs.event.decrypt.Reads as event_decrypt_reads
use Rattle.sealing.proofs.event.decode.Kinds as event_decode_kinds
use Rattle.sealing.proofs.event.decode.Reads as event_decode_reads
use Rattle.sealing.proofs.command.encrypt.Kinds as command_encrypt_kinds
use Rattle.sealing.proofs.command.encrypt.Reads as command_encrypt_reads
use Rattle.sealing.proofs.command.decrypt.Kinds as command_decrypt_kinds
use Rattle.sealing.proofs.command.decrypt.Reads as command_decrypt_reads
use Rattle.sealing.proofs.command.decode.Kinds as command_decode_kinds
use Rattle.sealing.proofs.command.decode.Reads as command_decode_reads
use Rattle.sealing.proofs.mesh.encrypt.Kinds as mesh_encrypt_kinds
use Rattle.sealing.proofs.mesh.encrypt.Reads as mesh_encrypt_reads
use Rattle.sealing.proofs.mesh.decrypt.Kinds as mesh_decrypt_kinds
use Rattle.sealing.proofs.mesh.decrypt.Reads as mesh_decrypt_reads
use Rattle.sealing.proofs.mesh.decode.Kinds as mesh_decode_kinds
use Rattle.sealing.proofs.mesh.decode.Reads as mesh_decode_reads

content_decrypt : Fixed 2 content_decrypt_kinds.ps content_decrypt_kinds.r content_decrypt_reads.Post
content_decrypt κs a x y v w p q = (p.0 ∙ sym q.0, ap (λ (l : List ℕ). (tt, (tt, (tt, (tt, (tt, (tt, (l, tt)))))))) (p.1 ∙ sym q.1))

content_decode : Fixed 1 content_decode_kinds.ps content_decode_kinds.r content_decode_reads.Post
content_decode κs a x y v w p q = (p ∙ sym q, refl)

event_encrypt : Fixed 3 event_encrypt_kinds.ps event_encrypt_kinds.r event_encrypt_reads.Post
event_encrypt κs a x y v w p q = (p.0 ∙ sym q.0, ap (λ (l : List ℕ). (tt, (tt, (tt, (l, tt))))) (p.1 ∙ sym q.1))

event_decrypt : Fixed 2 event_decrypt_kinds.ps event_decrypt_kinds.r event_decrypt_reads.Post
event_decrypt κs a x y v w p q = (p.0 ∙ sym q.0, ap (λ (l : List ℕ). (tt, (tt, (tt, (l, tt))))) (p.1 ∙ sym q.1))

event_decode : Fixed 1 event_decode_kinds.ps event_decode_kinds.r event_decode_reads.Post
event_decode κs a x y v w p q = (p ∙ sym q, refl)

command_encrypt : Fixed 3 command_encrypt_kinds.ps command_encrypt_kinds.r command_encrypt_reads.Post
command_encrypt κs a x y v w p q = (p.0 ∙ sym q.0, ap (λ (l : List ℕ). (tt, (tt, (tt, (l, tt))))) (p.1 ∙ sym q.1))

command_decrypt : Fixed 2 command_decrypt_kinds.ps command_decrypt_kinds.r command_decrypt_reads.Post
command_decrypt κs a x y v w p q = (p.0 ∙ sym q.0, ap (λ (l : List ℕ). (tt, (tt, (tt, (l, tt))))) (p.1 ∙ sym q.1))

command_decode : Fixed 1 command_decode_kinds.ps command_decode_kinds.r command_decode_reads.Post
command_decode κs a x y v w p q = (p ∙ sym q, refl)

mesh_encrypt : Fixed 3 mesh_encrypt_kinds.ps mesh_encrypt_kinds.r mesh_encrypt_reads.Post
mesh_encrypt κs a x y v w p q = (p.0 ∙ sym q.0, ap (λ (l : List ℕ). (tt, (tt, (tt, (l, tt))))) (p.1 ∙ sym q.1))

mesh_decrypt : Fixed 2 mesh_decrypt_kinds.ps mesh_decrypt_kinds.r mesh_decrypt_reads.Post
mesh_decrypt κs a x y v w p q = (p.0 ∙ sym q.0, ap (λ (l : List ℕ). (tt, (tt, (tt, (l, tt))))) (p.1 ∙ sym q.1))

mesh_decode : Fixed 1 mesh_decode_kinds.ps mesh_decode_kinds.r mesh_decode_reads.Post
mesh_decode κs a x y v w p q = (p ∙ sym q, refl)
