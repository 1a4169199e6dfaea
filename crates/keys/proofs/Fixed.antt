-- Each public call of this crate has one outcome. Assumes nothing.
use mathlib.Core.Path.{refl, sym, ap, ◌∙◌}
use mathlib.Core.List.{List}
use Prim.Native.Nat.{ℕ}
use Rattle.base.proofs.Outcome.{Fixed}
use Rattle.keys.proofs.Aes128Key.null.Kinds as null_kinds
use Rattle.keys.proofs.Aes128Key.null.Reads as null_reads
use Rattle.keys.proofs.Aes128Key.from_slice.Kinds as from_slice_kinds
use Rattle.keys.proofs.Aes128Key.from_slice.Reads as from_slice_reads
use Rattle.keys.proofs.Aes128Key.from_bytes.Kinds as from_bytes_kinds
use Rattle.keys.proofs.Aes128Key.from_bytes.Reads as from_bytes_reads
use Rattle.keys.proofs.Aes128Key.to_bytes.Kinds as to_bytes_kinds
use Rattle.keys.proofs.Aes128Key.to_bytes.Reads as to_bytes_reads
use Rattle.keys.proofs.Aes128Key.write.Kinds as write_kinds
use Rattle.keys.proofs.Aes128Key.write.Reads as write_reads
use Rattle.keys.proofs.Aes128Key.from_str.Kinds as from_str_kinds
use Rattle.keys.proofs.Aes128Key.from_str.Reads as from_str_reads
use Rattle.keys.proofs.Aes128Key.write_text.Kinds as write_text_kinds
use Rattle.keys.proofs.Aes128Key.write_text.Reads as write_text_reads

null : Fixed 0 null_kinds.ps null_kinds.r null_reads.Post
null κs a x y v w p q = (p ∙ sym q, refl)

from_slice : Fixed 1 from_slice_kinds.ps from_slice_kinds.r from_slice_reads.Post
from_slice κs a x y v w p q = (p ∙ sym q, refl)

from_bytes : Fixed 0 from_bytes_kinds.ps from_bytes_kinds.r from_bytes_reads.Post
from_bytes κs a x y v w p q = (p ∙ sym q, refl)

to_bytes : Fixed 0 to_bytes_kinds.ps to_bytes_kinds.r to_bytes_reads.Post
to_bytes κs a x y v w p q = (p ∙ sym q, refl)

write : Fixed 1 write_kinds.ps write_kinds.r write_reads.Post
write κs a x y v w p q = (p.0 ∙ sym q.0, ap (λ (l : List ℕ). (tt, (l, tt))) (p.1 ∙ sym q.1))

from_str : Fixed 1 from_str_kinds.ps from_str_kinds.r from_str_reads.Post
from_str κs a x y v w p q = (p ∙ sym q, refl)

write_text : Fixed 1 write_text_kinds.ps write_text_kinds.r write_text_reads.Post
write_text κs a x y v w p q = (p.0 ∙ sym q.0, ap (λ (l : List ℕ). (tt, (l, tt))) (p.1 ∙ sym q.1))
