-- Each public call of this crate has one outcome. Assumes nothing.
use mathlib.Core.Path.{refl, sym, ap, ◌∙◌}
use mathlib.Core.List.{List}
use Prim.Native.Nat.{ℕ}
use Rattle.base.proofs.Outcome.{Fixed}
use Rattle.composed_items.proofs.Composed.run.Kinds as run_of_kinds
use Rattle.composed_items.proofs.Composed.run.Reads as run_of_reads
use Rattle.composed_items.proofs.Lists.item_count.Kinds as item_count_kinds
use Rattle.composed_items.proofs.Lists.item_count.Reads as item_count_reads
use Rattle.composed_items.proofs.Lists.item_at.Kinds as item_at_kinds
use Rattle.composed_items.proofs.Lists.item_at.Reads as item_at_reads
use Rattle.composed_items.proofs.Composed.is_path.Kinds as is_path_kinds
use Rattle.composed_items.proofs.Composed.is_path.Reads as is_path_reads
use Rattle.composed_items.proofs.Lists.kinds_refusal.Kinds as kinds_refusal_kinds
use Rattle.composed_items.proofs.Lists.kinds_refusal.Reads as kinds_refusal_reads
use Rattle.composed_items.proofs.Lists.verdict.Kinds as verdict_kinds
use Rattle.composed_items.proofs.Lists.verdict.Reads as verdict_reads
use Rattle.composed_items.proofs.Lists.size.Kinds as size_kinds
use Rattle.composed_items.proofs.Lists.size.Reads as size_reads
use Rattle.composed_items.proofs.Lists.put.Kinds as put_composed_kinds
use Rattle.composed_items.proofs.Lists.put.Reads as put_composed_reads
use Rattle.composed_items.proofs.one.write_item.Kinds as write_item_kinds
use Rattle.composed_items.proofs.one.write_item.Reads as write_item_reads
use Rattle.composed_items.proofs.one.encode_event.Kinds as encode_event_kinds
use Rattle.composed_items.proofs.one.encode_event.Reads as encode_event_reads
use Rattle.composed_items.proofs.one.encode_command.Kinds as encode_command_kinds
use Rattle.composed_items.proofs.one.encode_command.Reads as encode_command_reads

run_of : Fixed 0 run_of_kinds.ps run_of_kinds.r run_of_reads.Post
run_of κs a x y v w p q = (p ∙ sym q, refl)

item_count : Fixed 2 item_count_kinds.ps item_count_kinds.r item_count_reads.Post
item_count κs a x y v w p q = (p ∙ sym q, refl)

item_at_lem : Fixed 2 item_at_kinds.ps item_at_kinds.r item_at_reads.Post
item_at_lem κs a x y v w p q = (p ∙ sym q, refl)

is_path_lem : Fixed 0 is_path_kinds.ps is_path_kinds.r is_path_reads.Post
is_path_lem κs a x y v w p q = (p ∙ sym q, refl)

kinds_refusal_lem : Fixed 2 kinds_refusal_kinds.ps kinds_refusal_kinds.r kinds_refusal_reads.Post
kinds_refusal_lem κs a x y v w p q = (p ∙ sym q, refl)

verdict : Fixed 2 verdict_kinds.ps verdict_kinds.r verdict_reads.Post
verdict κs a x y v w p q = (p ∙ sym q, refl)

size : Fixed 2 size_kinds.ps size_kinds.r size_reads.Post
size κs a x y v w p q = (p ∙ sym q, refl)

put_composed : Fixed 3 put_composed_kinds.ps put_composed_kinds.r put_composed_reads.Post
put_composed κs a x y v w p q = (refl, ap (λ (l : List ℕ). (tt, (tt, (tt, (l, (tt, tt)))))) (p ∙ sym q))

write_item : Fixed 2 write_item_kinds.ps write_item_kinds.r write_item_reads.Post
write_item κs a x y v w p q = (p.0 ∙ sym q.0, ap (λ (l : List ℕ). (tt, (tt, (tt, (tt, (l, tt)))))) (p.1 ∙ sym q.1))

encode_event : Fixed 2 encode_event_kinds.ps encode_event_kinds.r encode_event_reads.Post
encode_event κs a x y v w p q = (p.0 ∙ sym q.0, ap (λ (l : List ℕ). (tt, (tt, (l, tt)))) (p.1 ∙ sym q.1))

encode_command : Fixed 2 encode_command_kinds.ps encode_command_kinds.r encode_command_reads.Post
encode_command κs a x y v w p q = (p.0 ∙ sym q.0, ap (λ (l : List ℕ). (tt, (tt, (l, tt)))) (p.1 ∙ sym q.1))
