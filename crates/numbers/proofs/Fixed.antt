-- Each public call of this crate has one outcome. Assumes nothing.
use Prim.Native.Nat.{ℕ}
use mathlib.Core.Path.{refl, sym, ap, ap₂, ◌∙◌}
use mathlib.Core.List.{List}
use lib.IntN.{ℤ}
use Rattle.base.proofs.Outcome.{Fixed}
use Rattle.numbers.proofs.from_bool.Kinds as from_bool_kinds
use Rattle.numbers.proofs.from_bool.Reads as from_bool_reads
use Rattle.numbers.proofs.back.to_u8.Kinds as to_u8_kinds
use Rattle.numbers.proofs.back.to_u8.Reads as to_u8_reads
use Rattle.numbers.proofs.back.to_u16.Kinds as to_u16_kinds
use Rattle.numbers.proofs.back.to_u16.Reads as to_u16_reads
use Rattle.numbers.proofs.back.to_u32.Kinds as to_u32_kinds
use Rattle.numbers.proofs.back.to_u32.Reads as to_u32_reads
use Rattle.numbers.proofs.back.to_type.Kinds as to_type_kinds
use Rattle.numbers.proofs.back.to_type.Reads as to_type_reads
use Rattle.numbers.proofs.back.too_wide.Kinds as too_wide_kinds
use Rattle.numbers.proofs.back.too_wide.Reads as too_wide_reads
use Rattle.numbers.proofs.back.strange_content.Kinds as strange_content_kinds
use Rattle.numbers.proofs.back.strange_content.Reads as strange_content_reads
use Rattle.numbers.proofs.back.mesh_of.Kinds as mesh_of_kinds
use Rattle.numbers.proofs.back.mesh_of.Reads as mesh_of_reads
use Rattle.numbers.proofs.back.put_mic.Kinds as put_mic_kinds
use Rattle.numbers.proofs.back.put_mic.Reads as put_mic_reads
use Rattle.numbers.proofs.back.put_place.Kinds as put_place_kinds
use Rattle.numbers.proofs.back.put_place.Reads as put_place_reads
use Rattle.numbers.proofs.read.read_bare.Kinds as read_bare_kinds
use Rattle.numbers.proofs.read.read_bare.Reads as read_bare_reads
use Rattle.numbers.proofs.read.read_mesh_numbers.Kinds as read_mesh_numbers_kinds
use Rattle.numbers.proofs.read.read_mesh_numbers.Reads as read_mesh_numbers_reads
use Rattle.numbers.proofs.read.read_numbers.Kinds as read_numbers_kinds
use Rattle.numbers.proofs.read.read_numbers.Reads as read_numbers_reads
use Rattle.numbers.proofs.write.write_numbers.Kinds as write_numbers_kinds
use Rattle.numbers.proofs.write.write_numbers.Reads as write_numbers_reads

from_bool : Fixed 0 from_bool_kinds.ps from_bool_kinds.r from_bool_reads.Post
from_bool κs a x y v w p q = (p ∙ sym q, refl)

to_u8 : Fixed 0 to_u8_kinds.ps to_u8_kinds.r to_u8_reads.Post
to_u8 κs a x y v w p q = (p ∙ sym q, refl)

to_u16 : Fixed 0 to_u16_kinds.ps to_u16_kinds.r to_u16_reads.Post
to_u16 κs a x y v w p q = (p ∙ sym q, refl)

to_u32 : Fixed 0 to_u32_kinds.ps to_u32_kinds.r to_u32_reads.Post
to_u32 κs a x y v w p q = (p ∙ sym q, refl)

to_type : Fixed 0 to_type_kinds.ps to_type_kinds.r to_type_reads.Post
to_type κs a x y v w p q = (p ∙ sym q, refl)

too_wide : Fixed 1 too_wide_kinds.ps too_wide_kinds.r too_wide_reads.Post
too_wide κs a x y v w p q = (p ∙ sym q, refl)

strange_content_lem : Fixed 1 strange_content_kinds.ps strange_content_kinds.r strange_content_reads.Post
strange_content_lem κs a x y v w p q = (p ∙ sym q, refl)

mesh_of_lem : Fixed 1 mesh_of_kinds.ps mesh_of_kinds.r mesh_of_reads.Post
mesh_of_lem κs a x y v w p q = (p ∙ sym q, refl)

put_mic : Fixed 1 put_mic_kinds.ps put_mic_kinds.r put_mic_reads.Post
put_mic κs a x y v w p q = (refl, ap (λ (a : List ℕ). (tt, (a, tt))) (p ∙ sym q))

put_place : Fixed 1 put_place_kinds.ps put_place_kinds.r put_place_reads.Post
put_place κs a x y v w p q = (refl, ap (λ (a : List ℕ). (tt, (a, tt))) (p ∙ sym q))

read_bare : Fixed 4 read_bare_kinds.ps read_bare_kinds.r read_bare_reads.Post
read_bare κs a x y v w p q = (
  p.0 ∙ sym q.0,
  ap (λ (a : List ℕ). (tt, (tt, (a, (v.1.1.1.0, (v.1.1.1.1.0, tt)))))) (p.1.0 ∙ sym q.1.0)
      ∙ ap₂ (λ (b : ℤ) (c : ℤ). (tt, (tt, (w.1.1.0, (b, (c, tt)))))) (p.1.1.0 ∙ sym q.1.1.0) (p.1.1.1 ∙ sym q.1.1.1),
)

read_mesh_numbers : Fixed 4 read_mesh_numbers_kinds.ps read_mesh_numbers_kinds.r read_mesh_numbers_reads.Post
read_mesh_numbers κs a x y v w p q = (
  p.0 ∙ sym q.0,
  ap (λ (a : List ℕ). (tt, (a, (v.1.1.0, (v.1.1.1.0, tt))))) (p.1.0 ∙ sym q.1.0)
      ∙ ap₂ (λ (b : ℤ) (c : ℤ). (tt, (w.1.0, (b, (c, tt))))) (p.1.1.0 ∙ sym q.1.1.0) (p.1.1.1 ∙ sym q.1.1.1),
)

read_numbers : Fixed 4 read_numbers_kinds.ps read_numbers_kinds.r read_numbers_reads.Post
read_numbers κs a x y v w p q = (
  p.0 ∙ sym q.0,
  ap (λ (a : List ℕ). (tt, (a, (v.1.1.0, (v.1.1.1.0, tt))))) (p.1.0 ∙ sym q.1.0)
      ∙ ap₂ (λ (b : ℤ) (c : ℤ). (tt, (w.1.0, (b, (c, tt))))) (p.1.1.0 ∙ sym q.1.1.0) (p.1.1.1 ∙ sym q.1.1.1),
)

write_numbers : Fixed 8 write_numbers_kinds.ps write_numbers_kinds.r write_numbers_reads.Post
write_numbers κs a x y v w p q =
    (p.0 ∙ sym q.0, ap (λ (a : List ℕ). (tt, (tt, (tt, (tt, (tt, (tt, (tt, (tt, (tt, (tt, (a, tt)))))))))))) (p.1 ∙ sym q.1))
