-- Each public call of this crate has one outcome. Assumes nothing.
use mathlib.Core.Path.{refl, sym, ap, ◌∙◌}
use mathlib.Core.List.{List}
use Prim.Native.Nat.{ℕ}
use Rattle.base.proofs.Outcome.{Fixed, FixedPart}
use Rattle.contents.proofs.content.held_in.Kinds as held_in_kinds
use Rattle.contents.proofs.content.held_in.Reads as held_in_reads
use Rattle.contents.proofs.content.Content.of.Kinds as content_of_kinds
use Rattle.contents.proofs.content.Content.of.Reads as content_of_reads
use Rattle.contents.proofs.content.Content.payload.Kinds as content_payload_kinds
use Rattle.contents.proofs.content.Content.payload.Reads as content_payload_reads
use Rattle.contents.proofs.content.Content.value.Kinds as content_value_kinds
use Rattle.contents.proofs.content.Content.value.Reads as content_value_reads
use Rattle.contents.proofs.lent.Lent.of.Kinds as lent_of_kinds
use Rattle.contents.proofs.lent.Lent.of.Reads as lent_of_reads
use Rattle.contents.proofs.lent.Lent.held.Kinds as lent_held_kinds
use Rattle.contents.proofs.lent.Lent.held.Reads as lent_held_reads
use Rattle.contents.proofs.content.Content.kinds_refusal.Kinds as content_kinds_refusal_kinds
use Rattle.contents.proofs.content.Content.kinds_refusal.Reads as content_kinds_refusal_reads
use Rattle.contents.proofs.content.Content.refusal.Kinds as content_refusal_kinds
use Rattle.contents.proofs.content.Content.refusal.Reads as content_refusal_reads
use Rattle.contents.proofs.content.Content.size.Kinds as content_size_kinds
use Rattle.contents.proofs.content.Content.size.Reads as content_size_reads
use Rattle.contents.proofs.content.Content.put.Kinds as content_put_kinds
use Rattle.contents.proofs.content.Content.put.Reads as content_put_reads

held_in : FixedPart 1 held_in_kinds.ps held_in_kinds.r held_in_reads.Post (λ κs x. x.now)
held_in κs a x y v w p q = (p ∙ sym q, refl)

content_of_lem : Fixed 0 content_of_kinds.ps content_of_kinds.r content_of_reads.Post
content_of_lem κs a x y v w p q = (p ∙ sym q, refl)

content_payload : FixedPart 1 content_payload_kinds.ps content_payload_kinds.r content_payload_reads.Post (λ κs x. x.now)
content_payload κs a x y v w p q = (p ∙ sym q, refl)

content_value : FixedPart 2 content_value_kinds.ps content_value_kinds.r content_value_reads.Post (λ κs x. x.now)
content_value κs a x y v w p q = (p.0 ∙ sym q.0, ap (λ (l : ℕ). (tt, (tt, (tt, (tt, (l, tt)))))) (p.1 ∙ sym q.1))

lent_of : Fixed 1 lent_of_kinds.ps lent_of_kinds.r lent_of_reads.Post
lent_of κs a x y v w p q = (p ∙ sym q, refl)

lent_held : FixedPart 2 lent_held_kinds.ps lent_held_kinds.r lent_held_reads.Post (λ κs x. x.now)
lent_held κs a x y v w p q = (p ∙ sym q, refl)

content_kinds_refusal : Fixed 2 content_kinds_refusal_kinds.ps content_kinds_refusal_kinds.r content_kinds_refusal_reads.Post
content_kinds_refusal κs a x y v w p q = (p ∙ sym q, refl)

content_refusal_lem : Fixed 2 content_refusal_kinds.ps content_refusal_kinds.r content_refusal_reads.Post
content_refusal_lem κs a x y v w p q = (p ∙ sym q, refl)

content_size : Fixed 2 content_size_kinds.ps content_size_kinds.r content_size_reads.Post
content_size κs a x y v w p q = (p ∙ sym q, refl)

content_put : Fixed 3 content_put_kinds.ps content_put_kinds.r content_put_reads.Post
content_put κs a x y v w p q = (refl, ap (λ (l : List ℕ). (tt, (tt, (tt, (l, (tt, tt)))))) (p ∙ sym q))
