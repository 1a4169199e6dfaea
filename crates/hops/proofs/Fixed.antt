-- Each public call of this crate has one outcome. Assumes nothing.
use mathlib.Core.Path.{sym, ap, ◌∙◌}
use mathlib.Core.List.{List}
use Prim.Native.Nat.{ℕ}
use Rattle.base.proofs.Outcome.{Fixed}
use Rattle.hops.proofs.set_hop_count.Kinds as set_hop_count_kinds
use Rattle.hops.proofs.set_hop_count.Reads as set_hop_count_reads

set_hop_count : Fixed 1 set_hop_count_kinds.ps set_hop_count_kinds.r set_hop_count_reads.Post
set_hop_count κs a x y v w p q = (p.0 ∙ sym q.0, ap (λ (l : List ℕ). (l, (tt, (tt, tt)))) (p.1 ∙ sym q.1))
