-- What the duplicate cache knows a packet by, from the numbers alone. Assumes nothing.
use Prim.Native.Nat.{ℕ, ◌≤◌, ◌<◌}
use native.Mathlib.Omega.{arith}
use mathlib.Core.Path.{◌≡◌, refl, sym, ap, ap₂, ◌∙◌}
use mathlib.Core.Bool.{Bool, true, false}
use mathlib.Core.List.{List, [], ◌∷◌}
use lib.IntN.{pos}
use lib.ListN.{get_or}
use Rattle.base.specs.Answers.{number_in, left_by}
use Rattle.fields.specs.Header.{type_read, code_of}
use Rattle.fields.specs.declared.header.PayloadType.{PayloadType}
use Rattle.fields.specs.declared.header.PayloadType.TheVariants.{Uplink, Downlink, Event, Command}
use Rattle.fields.specs.declared.header.TypeRead.TheVariants.{Kind}
use Rattle.fields.proofs.Laws.Header.{type_of_two_bits}
use Rattle.packets.specs.Read.{mesh_says}
use Rattle.packets.specs.declared.mesh.MeshRead.{MeshRead}
use Rattle.packets.specs.declared.mesh.MeshRead.TheVariants.{Refused}
use Rattle.numbers.specs.Numbers.{at_most, too_wide, strange_content, typed_by, kind_by, mesh_from}
use Rattle.numbers.proofs.Laws.{no_type, mesh_wide, mesh_strange, mesh_known}
use Rattle.cache.specs.Cache.{record_of}
use Rattle.mesh_c.specs.Face.{record_in}
use Rattle.mesh_c.specs.inner.Known.{known_id, known_time}

abbrev pub Left : MeshRead → List ℕ → ℕ → List ℕ → Type 0
Left m xs n ys = (n ≡ number_in (mesh_says m)) × (ys ≡ left_by record_in xs (mesh_says m))

kept : (m : MeshRead) (n : ℕ) (xs : List ℕ) → m ≡ Refused n → Left m xs n xs
kept m n xs e = rw e (refl, refl)

module _ (ns xs : List ℕ) (b : Bool) (e : b ≡ too_wide ns) where
  abbrev read : MeshRead
  read = mesh_from ns (pos 0) (pos 0)

  pub no_width : b ≡ true → Left read xs 29 xs
  no_width h = kept read 29 xs (mesh_wide ns (pos 0) (pos 0) b e h)

  module _ (g : b ≡ false) (d : Bool) (f : d ≡ strange_content ns) where
    pub no_body : d ≡ true → Left read xs 29 xs
    no_body h = kept read 29 xs (mesh_strange ns (pos 0) (pos 0) b e g d f h)

    module _ (q : d ≡ false) where
      by_kind : read ≡ kind_by ns (pos 0) (pos 0) (type_read (get_or ns 0 0))
      by_kind = mesh_known ns (pos 0) (pos 0) b e g d f q

      pub no_kind : 3 < get_or ns 0 0 → Left read xs 29 xs
      no_kind h = kept read 29 xs (by_kind ∙ ap (kind_by ns (pos 0) (pos 0)) (no_type (get_or ns 0 0) h))

      module _ (k : get_or ns 0 0 ≤ 3) where
        two : (t : PayloadType) × (type_read (get_or ns 0 0) ≡ Kind t) × (code_of t ≡ get_or ns 0 0)
        two = type_of_two_bits (get_or ns 0 0) (omega arith)

        pub no_header : 3 < get_or ns 1 0 → Left read xs 29 xs
        no_header h =
            kept read 29 xs (by_kind ∙ ap (kind_by ns (pos 0) (pos 0)) two.1 ∙ ap (typed_by ns (pos 0) (pos 0) two.0) (no_type (get_or ns 1 0) h))

        -- the four numbers of each kind
        by : (t u : PayloadType) → code_of t ≡ get_or ns 0 0
            → code_of u ∷ known_id (get_or ns 0 0) (at_most 65535 (get_or ns 6 0)) ∷ known_time (get_or ns 0 0) (at_most 4294967295 (get_or ns 12 0))
            ∷ at_most 4294967295 (get_or ns 5 0) ∷ []
            ≡ left_by record_in xs (mesh_says (typed_by ns (pos 0) (pos 0) t (Kind u)))
        unfolding record_of known_id known_time
        by Uplink u w = rw (← w) refl
        by Downlink u w = rw (← w) refl
        by Event u w = rw (← w) refl
        by Command u w = rw (← w) refl

        module _ (h : get_or ns 1 0 ≤ 3) where
          header : (t : PayloadType) × (type_read (get_or ns 1 0) ≡ Kind t) × (code_of t ≡ get_or ns 1 0)
          header = type_of_two_bits (get_or ns 1 0) (omega arith)

          reads : read ≡ typed_by ns (pos 0) (pos 0) two.0 (Kind header.0)
          reads = by_kind ∙ ap (kind_by ns (pos 0) (pos 0)) two.1 ∙ ap (typed_by ns (pos 0) (pos 0) two.0) header.1

          pub known : (i c r : ℕ) → i ≡ known_id (get_or ns 0 0) (at_most 65535 (get_or ns 6 0)) → c ≡ known_time (get_or ns 0 0) (at_most 4294967295 (get_or ns 12 0))
              → r ≡ at_most 4294967295 (get_or ns 5 0) → Left read xs 0 (get_or ns 1 0 ∷ i ∷ c ∷ r ∷ [])
          known i c r p w s = (
            ap (λ (m : MeshRead). number_in (mesh_says m)) (sym reads),
            ap₂ ◌∷◌ (sym header.2) (ap₂ ◌∷◌ p (ap₂ ◌∷◌ w (ap₂ ◌∷◌ s refl)))
                ∙ by two.0 header.0 two.2
                ∙ ap (λ (m : MeshRead). left_by record_in xs (mesh_says m)) (sym reads),
          )
