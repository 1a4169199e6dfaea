-- Each public call of this crate has one outcome. Assumes nothing.
use mathlib.Core.Path.{refl, sym, ap, ◌∙◌}
use mathlib.Core.List.{List}
use Prim.Native.Nat.{ℕ}
use Rattle.base.proofs.Outcome.{Fixed, FixedPart}
use Rattle.wire.proofs.number.be16_of.Kinds as be16_of_kinds
use Rattle.wire.proofs.number.be16_of.Reads as be16_of_reads
use Rattle.wire.proofs.number.be24_of.Kinds as be24_of_kinds
use Rattle.wire.proofs.number.be24_of.Reads as be24_of_reads
use Rattle.wire.proofs.number.be32_of.Kinds as be32_of_kinds
use Rattle.wire.proofs.number.be32_of.Reads as be32_of_reads
use Rattle.wire.proofs.number.be16_bytes.Kinds as be16_bytes_kinds
use Rattle.wire.proofs.number.be16_bytes.Reads as be16_bytes_reads
use Rattle.wire.proofs.number.be24_bytes.Kinds as be24_bytes_kinds
use Rattle.wire.proofs.number.be24_bytes.Reads as be24_bytes_reads
use Rattle.wire.proofs.number.be32_bytes.Kinds as be32_bytes_kinds
use Rattle.wire.proofs.number.be32_bytes.Reads as be32_bytes_reads
use Rattle.wire.proofs.parts.reaches.Kinds as reaches_kinds
use Rattle.wire.proofs.parts.reaches.Reads as reaches_reads
use Rattle.wire.proofs.parts.part.Kinds as part_kinds
use Rattle.wire.proofs.parts.part.Reads as part_reads
use Rattle.wire.proofs.lay.put_all.Kinds as put_all_kinds
use Rattle.wire.proofs.lay.put_all.Reads as put_all_reads
use Rattle.wire.proofs.lay.emit.Kinds as emit_kinds
use Rattle.wire.proofs.lay.emit.Reads as emit_reads
use Rattle.wire.proofs.hex.nibble.Kinds as nibble_kinds
use Rattle.wire.proofs.hex.nibble.Reads as nibble_reads
use Rattle.wire.proofs.hex.digit.Kinds as digit_kinds
use Rattle.wire.proofs.hex.digit.Reads as digit_reads
use Rattle.wire.proofs.hex.is_hex.Kinds as is_hex_kinds
use Rattle.wire.proofs.hex.is_hex.Reads as is_hex_reads
use Rattle.wire.proofs.hex.read_hex.Kinds as read_hex_kinds
use Rattle.wire.proofs.hex.read_hex.Reads as read_hex_reads
use Rattle.wire.proofs.hex.write_hex.Kinds as write_hex_kinds
use Rattle.wire.proofs.hex.write_hex.Reads as write_hex_reads
use Rattle.wire.proofs.run.Run.refusal.Kinds as run_refusal_kinds
use Rattle.wire.proofs.run.Run.refusal.Reads as run_refusal_reads
use Rattle.wire.proofs.run.Run.bytes.Kinds as run_bytes_kinds
use Rattle.wire.proofs.run.Run.bytes.Reads as run_bytes_reads
use Rattle.wire.proofs.run.Run.part.Kinds as run_part_kinds
use Rattle.wire.proofs.run.Run.part.Reads as run_part_reads

be16_of : Fixed 0 be16_of_kinds.ps be16_of_kinds.r be16_of_reads.Post
be16_of κs a x y v w p q = (p ∙ sym q, refl)

be24_of : Fixed 0 be24_of_kinds.ps be24_of_kinds.r be24_of_reads.Post
be24_of κs a x y v w p q = (p ∙ sym q, refl)

be32_of : Fixed 0 be32_of_kinds.ps be32_of_kinds.r be32_of_reads.Post
be32_of κs a x y v w p q = (p ∙ sym q, refl)

be16_bytes : Fixed 0 be16_bytes_kinds.ps be16_bytes_kinds.r be16_bytes_reads.Post
be16_bytes κs a x y v w p q = (p ∙ sym q, refl)

be24_bytes : Fixed 0 be24_bytes_kinds.ps be24_bytes_kinds.r be24_bytes_reads.Post
be24_bytes κs a x y v w p q = (p ∙ sym q, refl)

be32_bytes : Fixed 0 be32_bytes_kinds.ps be32_bytes_kinds.r be32_bytes_reads.Post
be32_bytes κs a x y v w p q = (p ∙ sym q, refl)

reaches : Fixed 0 reaches_kinds.ps reaches_kinds.r reaches_reads.Post
reaches κs a x y v w p q = (p ∙ sym q, refl)

part : FixedPart 1 part_kinds.ps part_kinds.r part_reads.Post (λ κs x. x.now)
part κs a x y v w p q = (p ∙ sym q, refl)

put_all : Fixed 2 put_all_kinds.ps put_all_kinds.r put_all_reads.Post
put_all κs a x y v w p q = (refl, ap (λ (l : List ℕ). (tt, (l, (tt, tt)))) (p ∙ sym q))

emit : Fixed 2 emit_kinds.ps emit_kinds.r emit_reads.Post
emit κs a x y v w p q = (p.0 ∙ sym q.0, ap (λ (l : List ℕ). (tt, (l, tt))) (p.1 ∙ sym q.1))

nibble : Fixed 0 nibble_kinds.ps nibble_kinds.r nibble_reads.Post
nibble κs a x y v w p q = (p ∙ sym q, refl)

digit : Fixed 0 digit_kinds.ps digit_kinds.r digit_reads.Post
digit κs a x y v w p q = (p ∙ sym q, refl)

is_hex : Fixed 1 is_hex_kinds.ps is_hex_kinds.r is_hex_reads.Post
is_hex κs a x y v w p q = (p ∙ sym q, refl)

read_hex : Fixed 2 read_hex_kinds.ps read_hex_kinds.r read_hex_reads.Post
read_hex κs a x y v w p q = (refl, ap (λ (l : List ℕ). (tt, (l, tt))) (p ∙ sym q))

write_hex : Fixed 2 write_hex_kinds.ps write_hex_kinds.r write_hex_reads.Post
write_hex κs a x y v w p q = (refl, ap (λ (l : List ℕ). (tt, (l, (tt, tt)))) (p ∙ sym q))

run_refusal_lem : Fixed 0 run_refusal_kinds.ps run_refusal_kinds.r run_refusal_reads.Post
run_refusal_lem κs a x y v w p q = (p ∙ sym q, refl)

run_bytes_lem : FixedPart 1 run_bytes_kinds.ps run_bytes_kinds.r run_bytes_reads.Post (λ κs x. x.now)
run_bytes_lem κs a x y v w p q = (p ∙ sym q, refl)

run_part : FixedPart 2 run_part_kinds.ps run_part_kinds.r run_part_reads.Post (λ κs x. x.now)
run_part κs a x y v w p q = (p.0 ∙ sym q.0, ap (λ (l : ℕ). (tt, (tt, (l, tt)))) (p.1 ∙ sym q.1))
