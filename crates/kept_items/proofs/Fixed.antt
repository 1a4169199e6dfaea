-- Each public call of this crate has one outcome. Assumes nothing.
use mathlib.Core.Path.{refl, sym, ap, ◌∙◌}
use mathlib.Core.List.{List}
use Prim.Native.Nat.{ℕ}
use Rattle.base.proofs.Outcome.{Fixed}
use Rattle.kept_items.proofs.low_byte.Kinds as low_byte_kinds
use Rattle.kept_items.proofs.low_byte.Reads as low_byte_reads
use Rattle.kept_items.proofs.put_item.Kinds as put_item_kinds
use Rattle.kept_items.proofs.put_item.Reads as put_item_reads
use Rattle.kept_items.proofs.put_kept.Kinds as put_kept_kinds
use Rattle.kept_items.proofs.put_kept.Reads as put_kept_reads

low_byte : Fixed 0 low_byte_kinds.ps low_byte_kinds.r low_byte_reads.Post
low_byte κs a x y v w p q = (p ∙ sym q, refl)

put_item : Fixed 2 put_item_kinds.ps put_item_kinds.r put_item_reads.Post
put_item κs a x y v w p q = (refl, ap (λ (l : List ℕ). (tt, (tt, (tt, (l, (tt, tt)))))) (p ∙ sym q))

put_kept : Fixed 2 put_kept_kinds.ps put_kept_kinds.r put_kept_reads.Post
put_kept κs a x y v w p q = (refl, ap (λ (l : List ℕ). (tt, (tt, (l, (tt, tt))))) (p ∙ sym q))
