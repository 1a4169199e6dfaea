-- Each public call of this crate has one outcome. Assumes nothing.
use Rattle.std.proofs.Common.{ℕ, List, sym, refl, ap, ◌∙◌}
use Rattle.base.proofs.Outcome.{Fixed}
use Rattle.key_stream.proofs.key_block.Kinds as key_block_kinds
use Rattle.key_stream.proofs.key_block.Reads as key_block_reads
use Rattle.key_stream.proofs.add_stream.Kinds as add_stream_kinds
use Rattle.key_stream.proofs.add_stream.Reads as add_stream_reads
use Rattle.key_stream.proofs.encrypt_events_commands.Kinds as encrypt_events_commands_kinds
use Rattle.key_stream.proofs.encrypt_events_commands.Reads as encrypt_events_commands_reads

key_block : Fixed 1 key_block_kinds.ps key_block_kinds.r key_block_reads.Post
key_block κs a x y v w p q = (p ∙ sym q, refl)

add_stream : Fixed 2 add_stream_kinds.ps add_stream_kinds.r add_stream_reads.Post
add_stream κs a x y v w p q = (refl, ap (λ (l : List ℕ). (tt, (tt, (tt, (tt, (l, tt)))))) (p ∙ sym q))

encrypt_events_commands : Fixed 2 encrypt_events_commands_kinds.ps encrypt_events_commands_kinds.r encrypt_events_commands_reads.Post
encrypt_events_commands κs a x y v w p q = (p.0 ∙ sym q.0, ap (λ (l : List ℕ). (tt, (tt, (tt, (tt, (tt, (l, tt))))))) (p.1 ∙ sym q.1))
