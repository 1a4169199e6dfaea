-- A local array of path entries, as it is lent: its cell is its entries in memory, side by side, and back. And as a struct's field, where each
-- entry is its tuple. It says nothing of the crate's functions. Assumes `Logic`.
use mathlib.Core.Path.{◌≡◌, refl, sym, ap, ◌∙◌}
use mathlib.Core.List.{List, [], ◌∷◌, map}
use Prim.Native.Nat.{ℕ}
use lib.ListN.{length-map}
use seplogic.Ra.Ura.{Ura}
use base.Fraction.{full_share}
use mir.Syntax.{ty_array}
use mir.Val.{Val}
use base.Logic.{ent, guard}
use base.Fml.{Fml, fsep, fat}
use types.Logic.{Logic, sem}
use types.Kit.{‵, ◌$◌, ◌∵◌, !, qed, move, drop, use1, check, fsplit, fjoin, fpick, fpack, done}
use types.Share.{arr_parts}
use denote.RattleType.{RattleType}
use denote.Shadow.{shadow}
use denote.Laws.{Is, shows, Tells}
use denote.Memory.{cell_at, part_at, part_of, shares}
use denote.Array.{Array, each, array_val, array_vals, Array-Tells, Array-Makes}
use denote.ArrayMemory.{Array-apart, Array-whole}
use denote.Steps.{owned, peeks}
use denote.Struct.Steps.{spelt}
use denote.Struct.Declared.{field}
use denote.Struct.Laws as LL
use Rattle.fields.specs.declared.path.RelayPath.{RelayPath}
use Rattle.fields.specs.contracts.path.RelayPath as R
use Rattle.fields.proofs.path.RelayPath.TheLaws as R'

abbrev pub Entries : ℕ → RattleType
Entries n = Array R.the_row n

-- the array's machine value
abbrev pub entry_vals : RelayPath → List Val
entry_vals = LL.vals R.the_type R'.the_laws

abbrev pub av : List RelayPath → Val
av xs = array_val (map (LL.val R.the_type R'.the_laws) xs)

pub entries_tell : (n : ℕ) → Tells (Entries n) (Is (Entries n)) (array_vals entry_vals)
entries_tell n = Array-Tells R.the_row entry_vals (LL.tells R.the_type R'.the_laws) n

-- as a field
pub field_val : (xs : List RelayPath) → av xs ≡ array_val (map (LL.tuple_val R.the_type R'.the_laws) (map (R.the_type).to xs))
field_val xs = ap array_val (go xs)
  where
    go : (xs : List RelayPath) → map (LL.val R.the_type R'.the_laws) xs ≡ map (LL.tuple_val R.the_type R'.the_laws) (map (R.the_type).to xs)
    go [] = refl
    go (x ∷ xs) = ap (λ (us : List Val). LL.val R.the_type R'.the_laws x ∷ us) (go xs)

field_each : (xs : List RelayPath) (us : List Val) → shadow (each RelayPath (R.the_row).own_val xs us) → shadow (each _ (field R.the_type).row.own_val (map (R.the_type).to xs) us)
field_each [] [] s = s
field_each [] (u ∷ us) s = absurd s
field_each (x ∷ xs) [] s = absurd s
field_each (x ∷ xs) (u ∷ us) s = (s.0, field_each xs us s.1)

pub field_is : (n : ℕ) (xs : List RelayPath) → Is (Entries n) xs (av xs ∷ []) → Is (Array (field R.the_type).row n) (map (R.the_type).to xs) (array_val (map (LL.tuple_val R.the_type R'.the_laws) (map (R.the_type).to xs)) ∷ [])
field_is n xs p = (p.0, ((ap (λ (u : Val). u ∷ []) (sym (field_val xs)) ∙ p.1.0.0, length-map xs (R.the_type).to ∙ p.1.0.1), field_each xs p.0 p.1.1))

module _ {M : Type 1} {𝓤 : Ura M} (𝓛 : Logic 𝓤) (n : ℕ) where
  -- its entries in memory
  abbrev pub Side : List RelayPath → ℕ → Fml
  Side xs l = (arr_parts (shares R.the_row) n).part full_share xs l 0

  pub apart : (xs : List RelayPath) (l : ℕ) → Is (Entries n) xs (av xs ∷ []) → ent 𝓤 (sem 𝓛 (fat full_share (ty_array R'.mir n) l 0 (av xs))) (sem 𝓛 (Side xs l))
  unfolding part_of
  apart xs l is_xs =
      qed 𝓛 (‵ (fat full_share (ty_array R'.mir n) l 0 (av xs)) ∷ []) ∵ use1 𝓛 (‵ (cell_at full_share (Entries n).mir (av xs ∷ []) l 0)) (𝓛.laws.at_raw full_share (ty_array R'.mir n) l 0 (av xs)) $
      owned ! (Entries n) (Is (Entries n)) (Array-Makes 𝓛 R.the_row (LL.makes R.the_type R'.the_plain 𝓛) n) xs _ is_xs $ move ! (1 ∷ 0 ∷ []) $ fjoin ! $
      fpack ! (List Val) (λ us. fsep (cell_at full_share (Entries n).mir us l 0) ((Entries n).own_val xs us)) (av xs ∷ []) $
      use1 𝓛 (‵ (Side xs l)) (Array-apart 𝓛 R.the_row full_share tt n xs l 0) $ done !

  pub whole : (xs : List RelayPath) (l : ℕ) → ent 𝓤 (sem 𝓛 (Side xs l)) (guard 𝓤 (Is (Entries n) xs (av xs ∷ [])) (sem 𝓛 (fat full_share (ty_array R'.mir n) l 0 (av xs))))
  unfolding part_of
  whole xs l =
      qed 𝓛 (‵ (Side xs l) ∷ []) ∵ use1 𝓛 (‵ (part_at (Entries n) full_share xs l 0)) (Array-whole 𝓛 R.the_row full_share n xs l 0) $
      fpick ! (λ us. fsplit ! $ spelt ! (Entries n) (Is (Entries n)) (shows 𝓛 (Entries n)) (array_vals entry_vals) (entries_tell n) full_share xs us l 0 $
      use1 𝓛 (‵ (fat full_share (ty_array R'.mir n) l 0 (av xs))) (𝓛.laws.raw_at full_share (ty_array R'.mir n) l 0 (av xs)) $
      move ! (1 ∷ []) $ peeks ! (Entries n) (Is (Entries n)) (shows 𝓛 (Entries n)) xs (av xs ∷ []) (λ is_xs. drop ! $ check ! is_xs $ done !))
