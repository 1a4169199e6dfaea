-- Each public call of this crate has one outcome. Assumes nothing.
use mathlib.Core.Path.{sym, ap, ◌∙◌}
use mathlib.Core.List.{List}
use Prim.Native.Nat.{ℕ}
use Rattle.base.proofs.Outcome.{Fixed}
use Rattle.cache_words.proofs.clear.Kinds as clear_kinds
use Rattle.cache_words.proofs.clear.Reads as clear_reads
use Rattle.cache_words.proofs.add_words.Kinds as add_words_kinds
use Rattle.cache_words.proofs.add_words.Reads as add_words_reads
use Rattle.cache_words.proofs.add.Kinds as add_kinds
use Rattle.cache_words.proofs.add.Reads as add_reads

clear : Fixed 1 clear_kinds.ps clear_kinds.r clear_reads.Post
clear κs a x y v w p q = (p.0 ∙ sym q.0, ap (λ (l : List ℕ). (l, (tt, tt))) (p.1 ∙ sym q.1))

add_words : Fixed 1 add_words_kinds.ps add_words_kinds.r add_words_reads.Post
add_words κs a x y v w p q = (p.0 ∙ sym q.0, ap (λ (l : List ℕ). (l, (tt, (tt, (tt, tt))))) (p.1 ∙ sym q.1))

add : Fixed 1 add_kinds.ps add_kinds.r add_reads.Post
add κs a x y v w p q = (p.0 ∙ sym q.0, ap (λ (l : List ℕ). (l, (tt, tt))) (p.1 ∙ sym q.1))
