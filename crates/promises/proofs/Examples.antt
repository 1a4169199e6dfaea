-- The twelve worked examples of docs/RULES.md, of the definitions, as one statement. Assumes nothing.
use Prim.Native.Nat.{ℕ}
use mathlib.Core.Bool.{Bool, true, false}
use mathlib.Core.Path.{◌≡◌, refl, sym, ap, ◌∙◌}
use mathlib.Core.List.{List, [], ◌∷◌, map}
use native.Mathlib.Omega.{arith}
use lib.IntN.{pos, negsuc}
use Rattle.base.specs.Answers.{bytes, refused, value, number}
use Rattle.wire.specs.Number.{be_more, be_of, be_bytes}
use Rattle.fields.specs.Header.{type_read, header_of, header_says}
use Rattle.fields.specs.Freq.{hertz_of, halved_of, steps_of, exact_steps, freq_wire}
use Rattle.fields.specs.Signal.{rssi_of, snr_of, snr_byte, signal_says}
use Rattle.fields.specs.Meta.{up_of}
use Rattle.fields.specs.declared.header.PayloadType.TheVariants.{Command}
use Rattle.items.specs.Items.{bad_beat, kept, skipped, cut, pieces, opening_of}
use Rattle.cache.specs.Cache.{same_record, has, push, step, answers, add_says}
use Rattle.cache.specs.inner.Ring.{ring_answers, new_of}
use Rattle.cache.specs.declared.record.PayloadCache.{PayloadCache}
use Rattle.cache.specs.declared.ring.CacheAnswer.TheVariants.{New, Seen}
use Rattle.cache.proofs.Laws.{same_is, adds_list}

-- P11's payload
abbrev items : List ℕ
items = 0x01 ∷ 0x02 ∷ 0xaa ∷ 0xbb ∷ 0x00 ∷ 0x05 ∷ 0x01 ∷ 0x02 ∷ 0x03 ∷ 0x04 ∷ 0x05 ∷ 0x02 ∷ 0x00 ∷ 0x03 ∷ 0x09 ∷ 0xcc ∷ []

-- ---- P12, for any three records

differ_by : (a b : PayloadCache) → (a ≡ b → ⊥) → (t : Bool) → same_record a b ≡ t → t ≡ false
differ_by a b h true e = absurd (h ((same_is a b).0 e))
differ_by a b h false e = refl

differ : (a b : PayloadCache) → (a ≡ b → ⊥) → same_record a b ≡ false
differ a b h = differ_by a b h (same_record a b) refl

module _ (A B C : PayloadCache) (ab : A ≡ B → ⊥) (ac : A ≡ C → ⊥) (bc : B ≡ C → ⊥) where
  listed : answers 2 [] (A ∷ B ∷ A ∷ C ∷ A ∷ B ∷ []) ≡ New ∷ New ∷ Seen ∷ New ∷ New ∷ New ∷ []
  unfolding answers step push has
  listed =
      simp (
        differ A B ab,
        differ B A (λ e. ab (sym e)),
        differ A C ac,
        differ C A (λ e. ac (sym e)),
        differ B C bc,
        differ C B (λ e. bc (sym e)),
        (same_is A A).1 refl,
      )

  p12 : map add_says (ring_answers (new_of 2).cache (A ∷ B ∷ A ∷ C ∷ A ∷ B ∷ [])) ≡ value true ∷ value true ∷ value false ∷ value true ∷ value true ∷ value true ∷ []
  p12 = ap (map add_says) (adds_list 2 (omega arith) (omega arith) (A ∷ B ∷ A ∷ C ∷ A ∷ B ∷ []) ∙ listed)

-- P1 to P12, in their order: 14.1 to 14.12 of the rules
pub twelve :
    (up_of (0x12 ∷ 0x35 ∷ 0x50 ∷ 0x07 ∷ 0x02 ∷ []) ≡ record { uplink_id = 291; dr = 5; rssi = negsuc 79; snr = pos 7; channel = 2; odd = 0 })
    × (up_of (0xff ∷ 0xff ∷ 0xff ∷ 0x20 ∷ 0xff ∷ []) ≡ record { uplink_id = 4095; dr = 15; rssi = negsuc 254; snr = negsuc 31; channel = 255; odd = 0 })
    × (snr_of 0xff ≡ record { snr = negsuc 0; odd = 3 }) × (signal_says (snr_byte (negsuc 0)) ≡ value 0x3f)
    × (freq_wire 868100000 ≡ bytes (0x84 ∷ 0x76 ∷ 0x28 ∷ []))
    × (freq_wire 2400000001 ≡ refused 38) × (hertz_of 0xb7 0x1b 0x00 ≡ 2400000000)
    × (freq_wire 1200000000 ≡ refused 38)
    × (freq_wire 1677721500 ≡ refused 38) × (hertz_of 0xff 0xff 0xff ≡ 3355443000)
    × (freq_wire 1677721650 ≡ refused 17)
    × (header_says (header_of 0xff) ≡ value (record { payload_type = Command; hop_count = 8 }))
    × (header_says (header_of 0xdf) ≡ number 3)
    × (pieces true 0 items ≡ kept 1 (0xaa ∷ 0xbb ∷ []) ∷ skipped (0x01 ∷ 0x02 ∷ 0x03 ∷ 0x04 ∷ 0x05 ∷ []) ∷ kept 2 [] ∷ cut (0x03 ∷ 0x09 ∷ 0xcc ∷ []) ∷ [])
    × (opening_of true items ≡ record { kept = 2; skipped = 1; kept_bytes = 6; skipped_bytes = 7; cut_bytes = 3; clean = false })
    × (opening_of false items ≡ record { kept = 3; skipped = 0; kept_bytes = 13; skipped_bytes = 0; cut_bytes = 3; clean = false })
    × ((A B C : PayloadCache) → (A ≡ B → ⊥) → (A ≡ C → ⊥) → (B ≡ C → ⊥)
    → map add_says (ring_answers (new_of 2).cache (A ∷ B ∷ A ∷ C ∷ A ∷ B ∷ [])) ≡ value true ∷ value true ∷ value false ∷ value true ∷ value true ∷ value true ∷ [])
unfolding be_more be_of be_bytes type_read header_of hertz_of halved_of steps_of exact_steps rssi_of snr_of snr_byte opening_of pieces bad_beat
twelve = (refl, refl, refl, refl, refl, refl, refl, refl, refl, refl, refl, refl, refl, refl, refl, refl, p12)
