-- Each public call of this crate has one outcome. Assumes nothing.
use Prim.Native.Nat.{ℕ}
use native.Mathlib.Omega.{arith}
use mathlib.Core.Bool.{Bool}
use mathlib.Core.Path.{◌≡◌, refl, sym, ap, ◌∙◌}
use mathlib.Core.List.{List}
use Rattle.std.specs.Prelude.{Option, Some, None}
use Rattle.base.proofs.Outcome.{Fixed}
use Rattle.items.specs.declared.item.ItemRead.{ItemRead}
use Rattle.items.specs.Items.{goes_on_to, next_of}
use Rattle.items.proofs.count.count_items.Kinds as count_items_kinds
use Rattle.items.proofs.count.count_items.Reads as count_items_reads
use Rattle.items.proofs.count.Opening.none.Kinds as opening_none_kinds
use Rattle.items.proofs.count.Opening.none.Reads as opening_none_reads
use Rattle.items.proofs.item.Event.count.Kinds as event_count_kinds
use Rattle.items.proofs.item.Event.count.Reads as event_count_reads
use Rattle.items.proofs.item.Command.count.Kinds as command_count_kinds
use Rattle.items.proofs.item.Command.count.Reads as command_count_reads
use Rattle.items.proofs.item.is_beat.Kinds as is_beat_kinds
use Rattle.items.proofs.item.is_beat.Reads as is_beat_reads
use Rattle.items.proofs.item.next_item.Kinds as next_item_kinds
use Rattle.items.proofs.item.next_item.Reads as next_item_reads
use Rattle.items.proofs.item.Event.decode.Kinds as event_decode_kinds
use Rattle.items.proofs.item.Event.decode.Reads as event_decode_reads
use Rattle.items.proofs.item.Command.decode.Kinds as command_decode_kinds
use Rattle.items.proofs.item.Command.decode.Reads as command_decode_reads
use Rattle.items.proofs.item.ItemKind.to_byte.Kinds as item_kind_to_byte_kinds
use Rattle.items.proofs.item.ItemKind.to_byte.Reads as item_kind_to_byte_reads
use Rattle.items.proofs.item.Item.sealed.Kinds as item_sealed_kinds
use Rattle.items.proofs.item.Item.sealed.Reads as item_sealed_reads
use Rattle.items.proofs.item.Item.get_type.Kinds as item_get_type_kinds
use Rattle.items.proofs.item.Item.get_type.Reads as item_get_type_reads

count_items : Fixed 1 count_items_kinds.ps count_items_kinds.r count_items_reads.Post
count_items κs a x y v w p q = (p ∙ sym q, refl)

opening_none : Fixed 0 opening_none_kinds.ps opening_none_kinds.r opening_none_reads.Post
opening_none κs a x y v w p q = (p ∙ sym q, refl)

event_count : Fixed 1 event_count_kinds.ps event_count_kinds.r event_count_reads.Post
event_count κs a x y v w p q = (p ∙ sym q, refl)

command_count : Fixed 1 command_count_kinds.ps command_count_kinds.r command_count_reads.Post
command_count κs a x y v w p q = (p ∙ sym q, refl)

is_beat_lem : Fixed 0 is_beat_kinds.ps is_beat_kinds.r is_beat_reads.Post
is_beat_lem κs a x y v w p q = (p ∙ sym q, refl)

next_item : Fixed 1 next_item_kinds.ps next_item_kinds.r next_item_reads.Post
next_item κs a x y v w p q = (p ∙ sym q, refl)

event_decode : Fixed 1 event_decode_kinds.ps event_decode_kinds.r event_decode_reads.Post
event_decode κs a x y v w p q = (p ∙ sym q, refl)

command_decode : Fixed 1 command_decode_kinds.ps command_decode_kinds.r command_decode_reads.Post
command_decode κs a x y v w p q = (p ∙ sym q, refl)

item_kind_to_byte : Fixed 0 item_kind_to_byte_kinds.ps item_kind_to_byte_kinds.r item_kind_to_byte_reads.Post
item_kind_to_byte κs a x y v w p q = (p ∙ sym q, refl)

item_sealed : Fixed 0 item_sealed_kinds.ps item_sealed_kinds.r item_sealed_reads.Post
item_sealed κs a x y v w p q = (p ∙ sym q, refl)

item_get_type : Fixed 0 item_get_type_kinds.ps item_get_type_kinds.r item_get_type_reads.Post
item_get_type κs a x y v w p q = (p ∙ sym q, refl)

-- a step of the iterator, by what its clause says of it: the payload by what it holds, since of a lent slice no more is said
items_next : (ev : Bool) (s : List ℕ) (at : ℕ) (r q : Option ItemRead) (e e2 : Bool) (t t2 : List ℕ) (m m2 : ℕ)
    → goes_on_to ev s at r e t m → goes_on_to ev s at q e2 t2 m2 → (r ≡ q) × (e ≡ e2) × (t ≡ t2) × (m ≡ m2)
items_next ev s at None None e e2 t t2 m m2 p q = (refl, p.0 ∙ sym q.0, p.1 ∙ sym q.1, p.2.1 ∙ sym q.2.1)
items_next ev s at None (Some j) e e2 t t2 m m2 p q = let a = p.2.0 in let b = q.2.0 in absurd (omega arith)
items_next ev s at (Some i) None e e2 t t2 m m2 p q = let a = p.2.0 in let b = q.2.0 in absurd (omega arith)
items_next ev s at (Some i) (Some j) e e2 t t2 m m2 p q =
    let k : i ≡ j = sym p.2.1 ∙ q.2.1 in
    (ap Some k, p.0 ∙ sym q.0, p.1 ∙ sym q.1, p.2.2 ∙ ap next_of k ∙ sym q.2.2)
