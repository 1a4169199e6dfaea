-- Each public call of this crate has one outcome. Assumes nothing.
use mathlib.Core.Path.{refl, sym, ap, ◌∙◌}
use mathlib.Core.List.{List}
use Prim.Native.Nat.{ℕ}
use Rattle.base.proofs.Outcome.{Fixed}
use Rattle.dump.proofs.digits.width.Kinds as width_kinds
use Rattle.dump.proofs.digits.width.Reads as width_reads
use Rattle.dump.proofs.digits.put_decimal.Kinds as put_decimal_kinds
use Rattle.dump.proofs.digits.put_decimal.Reads as put_decimal_reads
use Rattle.dump.proofs.frame.write_refused.Kinds as write_refused_kinds
use Rattle.dump.proofs.frame.write_refused.Reads as write_refused_reads
use Rattle.dump.proofs.frame.write_text.Kinds as write_text_kinds
use Rattle.dump.proofs.frame.write_text.Reads as write_text_reads
use Rattle.dump.proofs.frame.dump_frame.Kinds as dump_frame_kinds
use Rattle.dump.proofs.frame.dump_frame.Reads as dump_frame_reads
use Rattle.dump.proofs.line.dump_line.Kinds as dump_line_kinds
use Rattle.dump.proofs.line.dump_line.Reads as dump_line_reads

width : Fixed 0 width_kinds.ps width_kinds.r width_reads.Post
width κs a x y v w p q = (p.0 ∙ sym q.0, refl)

put_decimal : Fixed 1 put_decimal_kinds.ps put_decimal_kinds.r put_decimal_reads.Post
put_decimal κs a x y v w p q = (refl, ap (λ (l : List ℕ). (tt, (l, (tt, tt)))) (p ∙ sym q))

write_refused : Fixed 1 write_refused_kinds.ps write_refused_kinds.r write_refused_reads.Post
write_refused κs a x y v w p q = (p.0 ∙ sym q.0, ap (λ (l : List ℕ). (tt, (l, tt))) (p.1 ∙ sym q.1))

write_text : Fixed 1 write_text_kinds.ps write_text_kinds.r write_text_reads.Post
write_text κs a x y v w p q = (p.0 ∙ sym q.0, ap (λ (l : List ℕ). (tt, (l, tt))) (p.1 ∙ sym q.1))

dump_frame : Fixed 2 dump_frame_kinds.ps dump_frame_kinds.r dump_frame_reads.Post
dump_frame κs a x y v w p q = (p.0 ∙ sym q.0, ap (λ (l : List ℕ). (tt, (l, tt))) (p.1 ∙ sym q.1))

dump_line : Fixed 2 dump_line_kinds.ps dump_line_kinds.r dump_line_reads.Post
dump_line κs a x y v w p q = (p.0 ∙ sym q.0, ap (λ (l : List ℕ). (tt, (l, tt))) (p.1 ∙ sym q.1))
