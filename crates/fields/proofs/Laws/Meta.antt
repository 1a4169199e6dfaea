-- Laws of both metadata forms. Assumes nothing.
use Prim.Native.Nat.{ℕ, ◌+◌, ◌-◌, ◌*◌, ◌/◌, ◌%◌, ◌<◌, ◌≤◌}
use native.Mathlib.Omega.{arith}
use mathlib.Core.Bool.{Bool, true, false}
use mathlib.Core.Path.{◌≡◌, refl, sym, ap, ◌∙◌}
use mathlib.Core.List.{List, [], ◌∷◌, ◌++◌}
use lib.Dec.{ltb, eqb}
use lib.ListN.{length, get_or}
use borrow.Author.Tests.{ltb-false, eqb-true, eqb-false, le-ltb}
use Rattle.base.specs.Pick.{pick}
use Rattle.base.specs.Lists.{Bytes}
use Rattle.base.specs.Answers.{Writing, bytes, refused}
use Rattle.base.proofs.First.{passed}
use Rattle.base.proofs.Lists.{listed}
use Rattle.base.proofs.Answers.{unless_bytes}
use Rattle.wire.specs.Number.{be_bytes}
use Rattle.fields.specs.Signal.{even_byte, even_at}
use Rattle.fields.specs.Freq.{hertz_in}
use Rattle.fields.specs.Meta.{id_bytes, id_refusal, after_rssi, up_of, even, up_wire, down_refusal, after_freq, down_of, down_wire}
use Rattle.fields.specs.declared.meta.UplinkMetadata.{UplinkMetadata}
use Rattle.fields.specs.declared.meta.DownlinkMetadata.{DownlinkMetadata}
use Rattle.fields.specs.declared.signal.SignalByte.{SignalByte}
use Rattle.fields.specs.declared.signal.SignalByte.TheVariants.{Byte, Refused}
use Rattle.fields.proofs.Laws.Bytes.{none, ◌▸◌, small}
use Rattle.fields.proofs.Laws.Signal.{rssi_back, rssi_again, rssi_byte_lt, snr_back, snr_again, snr_byte_lt, even_other, even_read_lem, even_list}
use Rattle.fields.proofs.Laws.Freq.{freq_steps, freq_again}

-- ---- the bounds that a chain with no refusal gives

pub record IdFits (n d : ℕ) : Type 0 where
  pub id : n ≤ 4095
  pub dr : d ≤ 15

pub id_fits : (n d : ℕ) → id_refusal n d ≡ 0 → IdFits n d
unfolding id_refusal
id_fits n d e =
    let a = passed (ltb 4095 n) 7 _ e in
    let b = passed (ltb 15 d) 8 _ a.1 in
    record { id = ltb-false _ _ a.0; dr = ltb-false _ _ b.0 }

-- the number that is picked where a test on it fails is not 0
rest : (n x : ℕ) (t : Bool) → eqb n 0 ≡ t → pick t x n ≡ 0 → (n ≡ 0) × (x ≡ 0)
rest n x true h e = (eqb-true n 0 h, e)
rest n x false h e = absurd (eqb-false n 0 h e)

pub record DownFits (m : DownlinkMetadata) : Type 0 where
  pub id : m.uplink_id ≤ 4095
  pub dr : m.dr ≤ 15
  pub least : 1 ≤ m.delay
  pub power : m.tx_power ≤ 15
  pub most : m.delay ≤ 16

pub down_fits : (m : DownlinkMetadata) → down_refusal m ≡ 0 → DownFits m
unfolding down_refusal
down_fits m e =
    let r = rest (id_refusal m.uplink_id m.dr) _ _ refl e in
    let a = id_fits m.uplink_id m.dr r.0 in
    let c = passed (ltb m.delay 1) 13 _ r.1 in
    let d = passed (ltb 15 m.tx_power) 14 _ c.1 in
    let f = passed (ltb 16 m.delay) 15 _ d.1 in
    record {
      id = a.id;
      dr = a.dr;
      least = ltb-false _ _ c.0;
      power = ltb-false _ _ d.0;
      most = ltb-false _ _ f.0;
    }

-- ---- what a frame of bytes came of

pub same_bytes : (v w : List ℕ) → bytes v ≡ bytes w → v ≡ w
same_bytes v w e = cc

-- both signals were accepted, with these bytes
pub record Signals (before after : List ℕ) (s r : SignalByte) (w : List ℕ) : Type 0 where
  pub rssi : ℕ
  pub snr : ℕ
  pub rssi_is : r ≡ Byte rssi
  pub snr_is : s ≡ Byte snr
  pub bytes_are : w ≡ before ++ rssi ∷ snr ∷ after

pub signals : (before after : List ℕ) (s r : SignalByte) (w : List ℕ) → after_rssi before after s r ≡ bytes w → Signals before after s r w
signals before after s (Refused n) w e = let z : ◌≡◌ {A = ℕ} 0 1 = cc in absurd (omega arith)
signals before after (Refused n) (Byte r) w e = let z : ◌≡◌ {A = ℕ} 0 1 = cc in absurd (omega arith)
signals before after (Byte s) (Byte r) w e = record { rssi = r; snr = s; rssi_is = refl; snr_is = refl; bytes_are = cc }

-- ---- uplinks

-- what is written is read back, without odd bits
pub up_back : (m : UplinkMetadata) (w : List ℕ) → m.channel < 256 → up_wire m ≡ bytes w → (length w ≡ 5) × (Bytes w) × (up_of w ≡ even m)
unfolding up_wire
up_back m w h e =
    let u = unless_bytes _ _ w e in
    let f = id_fits _ _ u.0 in
    let i : m.uplink_id / 16 % 256 * 16 + (m.uplink_id % 16 * 16 + m.dr) / 16 ≡ m.uplink_id = omega arith in
    let d : (m.uplink_id % 16 * 16 + m.dr) % 16 ≡ m.dr = omega arith in
    let g = signals (id_bytes m.uplink_id m.dr) (m.channel ∷ []) _ _ w u.1 in
    let r = rssi_back m.rssi g.rssi g.rssi_is in
    let s = snr_back m.snr g.snr g.snr_is in
    let lr = rssi_byte_lt m.rssi g.rssi g.rssi_is in
    let ls = snr_byte_lt m.snr g.snr g.snr_is in
    rw g.bytes_are (refl, small ((omega arith) ▸ (omega arith) ▸ lr ▸ (omega arith) ▸ h ▸ none), rw (i, d, r, s))

-- and what is read is written as the same bytes, the odd bits cleared
up_spelt : (b : List ℕ) → Bytes b → up_wire (up_of b) ≡ bytes (get_or b 0 0 ∷ get_or b 1 0 ∷ get_or b 2 0 ∷ even_byte (get_or b 3 0) ∷ get_or b 4 0 ∷ [])
unfolding up_wire id_refusal
up_spelt b h =
    let x0 = get_or b 0 0 in
    let x1 = get_or b 1 0 in
    let h0 = h 0 in
    let h1 = h 1 in
    let p : (x0 * 16 + x1 / 16) / 16 % 256 ≡ x0 = omega arith in
    let q : (x0 * 16 + x1 / 16) % 16 * 16 + x1 % 16 ≡ x1 = omega arith in
    simp (le-ltb 4095 (x0 * 16 + x1 / 16) (omega arith), le-ltb 15 (x1 % 16) (omega arith), p, q, rssi_again (get_or b 2 0) (h 2), snr_again (get_or b 3 0) (h 3))

module _ (b : List ℕ) (l : length b ≡ 5) where
  pub up_again : Bytes b → up_wire (up_of b) ≡ bytes (even_at b 3)
  up_again h = up_spelt b h ∙ ap (λ (x : List ℕ). bytes (even_at x 3)) (listed 5 b l)

  -- so as the same bytes exactly if they were 0
  pub up_same : Bytes b → ((up_of b).odd ≡ 0 → up_wire (up_of b) ≡ bytes b) × (up_wire (up_of b) ≡ bytes b → (up_of b).odd ≡ 0)
  up_same h =
      let a = up_again h in
      let e = even_list b 3 (omega arith) in (λ z. a ∙ ap bytes (e.0 z), λ q. e.1 (same_bytes (even_at b 3) b (sym a ∙ q)))

-- and all else is read whatever they are
pub up_even : (b : List ℕ) → 3 < length b → up_of (even_at b 3) ≡ even (up_of b)
up_even b l =
    let o = even_other b 3 in
    rw (o 0 (λ e. omega arith), o 1 (λ e. omega arith), o 2 (λ e. omega arith), o 4 (λ e. omega arith), even_read_lem b 3 l) refl

-- ---- downlinks

with_steps_lem : (m : DownlinkMetadata) (f : Writing) (w : List ℕ) → after_freq m f ≡ bytes w
    → (s : List ℕ) × (f ≡ bytes s) × (w ≡ id_bytes m.uplink_id m.dr ++ s ++ (m.tx_power * 16 + (m.delay - 1)) ∷ [])
with_steps_lem m (bytes s) w e = (s, refl, cc)
with_steps_lem m (refused n) w e = let z : ◌≡◌ {A = ℕ} 0 1 = cc in absurd (omega arith)

-- what is written is read back
pub down_back : (m : DownlinkMetadata) (w : List ℕ) → down_wire m ≡ bytes w → (length w ≡ 6) × (Bytes w) × (down_of w ≡ m)
unfolding down_wire be_bytes
down_back m w e =
    let u = unless_bytes _ _ w e in
    let f = down_fits m u.0 in
    let g = with_steps_lem m _ w u.1 in
    let n = freq_steps m.frequency g.0 g.1 in
    let i : m.uplink_id / 16 % 256 * 16 + (m.uplink_id % 16 * 16 + m.dr) / 16 ≡ m.uplink_id = omega arith in
    let d : (m.uplink_id % 16 * 16 + m.dr) % 16 ≡ m.dr = omega arith in
    let p : (m.tx_power * 16 + (m.delay - 1)) / 16 ≡ m.tx_power = omega arith in
    let y : (m.tx_power * 16 + (m.delay - 1)) % 16 + 1 ≡ m.delay = omega arith in
    let q = ap hertz_in (sym n.1) ∙ n.2 in
    let v = g.2 ∙ ap (λ (s : List ℕ). id_bytes m.uplink_id m.dr ++ s ++ (m.tx_power * 16 + (m.delay - 1)) ∷ []) n.1 in
    rw v (refl, small ((omega arith) ▸ (omega arith) ▸ (omega arith) ▸ (omega arith) ▸ (omega arith) ▸ (omega arith) ▸ none), rw (i, d, q, p, y))

-- and what is read is written as the same bytes
pub down_again : (b : List ℕ) → length b ≡ 6 → Bytes b
    → down_wire (down_of b) ≡ bytes (get_or b 0 0 ∷ get_or b 1 0 ∷ get_or b 2 0 ∷ get_or b 3 0 ∷ get_or b 4 0 ∷ get_or b 5 0 ∷ [])
unfolding down_wire down_refusal id_refusal
down_again b l h =
    let x0 = get_or b 0 0 in
    let x1 = get_or b 1 0 in
    let x5 = get_or b 5 0 in
    let h0 = h 0 in
    let h1 = h 1 in
    let h5 = h 5 in
    let p : (x0 * 16 + x1 / 16) / 16 % 256 ≡ x0 = omega arith in
    let q : (x0 * 16 + x1 / 16) % 16 * 16 + x1 % 16 ≡ x1 = omega arith in
    let r : x5 / 16 * 16 + (x5 % 16 + 1 - 1) ≡ x5 = omega arith in
    simp (
      le-ltb 4095 (x0 * 16 + x1 / 16) (omega arith),
      le-ltb 15 (x1 % 16) (omega arith),
      le-ltb (x5 % 16 + 1) 1 (omega arith),
      le-ltb 15 (x5 / 16) (omega arith),
      le-ltb 16 (x5 % 16 + 1) (omega arith),
      freq_again (get_or b 2 0) (get_or b 3 0) (get_or b 4 0) (h 2) (h 3) (h 4),
      p,
      q,
      r,
    )
