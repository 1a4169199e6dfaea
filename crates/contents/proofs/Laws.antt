-- Laws of a content as it is written: the kinds of composed items come first, so that what is not refused has none that is. Assumes nothing.
use mathlib.Core.Bool.{Bool}
use mathlib.Core.Path.{◌≡◌, refl}
use mathlib.Core.List.{List, []}
use Prim.Native.Nat.{ℕ}
use Rattle.base.specs.Numbers.{type_large}
use Rattle.composed_items.proofs.Laws.{known_kinds, no_kinds, kinds_29}
use Rattle.contents.specs.Content.{Lent, content_kinds, content_refusal}
use Rattle.contents.specs.declared.content.Content.{Content}
use Rattle.contents.specs.declared.content.Content.TheVariants.{Empty, Sealed, Open, Items}

pub known_content : (ev : Bool) (l : Lent) (b : Content) → content_refusal ev l b ≡ 0 → content_kinds ev l.lists.kinds l.lists.spans b ≡ 0
unfolding content_refusal content_kinds
known_content ev l Empty e = refl
known_content ev l (Sealed r) e = refl
known_content ev l (Open h r) e = refl
known_content ev l (Items n) e = known_kinds ev l.lists n e

pub no_lists : (ev : Bool) (b : Content) → content_kinds ev [] [] b ≡ 0
unfolding content_kinds
no_lists ev Empty = refl
no_lists ev (Sealed r) = refl
no_lists ev (Open h r) = refl
no_lists ev (Items n) = no_kinds ev n

pub content_29 : (ev : Bool) (kinds spans : List (List ℕ)) (b : Content) → (content_kinds ev kinds spans b ≡ 0 → ⊥) → content_kinds ev kinds spans b ≡ type_large
unfolding content_kinds
content_29 ev kinds spans Empty h = absurd (h refl)
content_29 ev kinds spans (Sealed r) h = absurd (h refl)
content_29 ev kinds spans (Open k r) h = absurd (h refl)
content_29 ev kinds spans (Items n) h = kinds_29 ev kinds spans n h
