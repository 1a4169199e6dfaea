-- The least and the largest value of each field: all that is read lies between them, and both are read. Assumes nothing.
use Prim.Native.Nat.{ℕ, zero, suc, ◌+◌, ◌-◌, ◌*◌, ◌/◌, ◌%◌, ◌<◌, ◌≤◌}
use native.Mathlib.Omega.{arith}
use mathlib.Core.Bool.{Bool, true, false}
use mathlib.Core.Path.{◌≡◌, refl}
use mathlib.Core.List.{List, [], ◌∷◌}
use lib.Dec.{leb, ltb, lit<}
use lib.IntN.{ℤ, pos, neg_ℤ}
use lib.Signed.{lt_z}
use lib.ListN.{get_or, replicate}
use borrow.Author.Tests.{le-ltb, ltb-true, ltb-false}
use Rattle.base.specs.Pick.{pick}
use Rattle.base.specs.Lists.{Bytes}
use Rattle.wire.specs.Number.{be_of, be_more}
use Rattle.wire.proofs.Laws.Number.{be_lt}
use Rattle.fields.specs.Limits.{hops_least, hops_most, uplink_id_least, uplink_id_most, dr_least, dr_most, rssi_least, rssi_most, snr_least, snr_most, odd_least, odd_most, channel_least, channel_most, relay_id_least, relay_id_most, hertz_least, hertz_most, steps_most, tx_power_least, tx_power_most, delay_least, delay_most, timestamp_least, timestamp_most, mic_least, mic_most}
use Rattle.fields.specs.Header.{type_least, type_most, code_at, hops_at}
use Rattle.fields.specs.Signal.{rssi_of, snr_of}
use Rattle.fields.specs.Freq.{scaled, hertz_of}
use Rattle.fields.specs.Meta.{up_of, down_of}
use Rattle.fields.specs.Path.{path_of}
use Rattle.fields.proofs.Laws.Bytes.{none, ◌▸◌, small}
use Rattle.fields.proofs.Laws.Signal.{odd_is}

pub data Field : Type 0 where
  TypeCode : Field
  HopCount : Field
  UplinkId : Field
  Dr : Field
  Rssi : Field
  Snr : Field
  Odd : Field
  Channel : Field
  RelayId : Field
  Hertz : Field
  FrequencySteps : Field
  TxPower : Field
  Delay : Field
  Timestamp : Field
  Mic : Field

-- three and four bytes as one number
abbrev three_of : List ℕ → ℕ
three_of b = be_of (get_or b 2 0 ∷ get_or b 3 0 ∷ get_or b 4 0 ∷ [])

abbrev four_of : List ℕ → ℕ
four_of b = be_of (get_or b 0 0 ∷ get_or b 1 0 ∷ get_or b 2 0 ∷ get_or b 3 0 ∷ [])

-- what is read of a header byte, of an uplink's or a downlink's metadata, of a path entry, of a timestamp's or a MIC's four bytes
abbrev pub read_of : Field → List ℕ → ℤ
read_of TypeCode b = pos (code_at (get_or b 0 0))
read_of HopCount b = pos (hops_at (get_or b 0 0))
read_of UplinkId b = pos (up_of b).uplink_id
read_of Dr b = pos (up_of b).dr
read_of Rssi b = (up_of b).rssi
read_of Snr b = (up_of b).snr
read_of Odd b = pos (up_of b).odd
read_of Channel b = pos (up_of b).channel
read_of RelayId b = pos (path_of b).relay_id
read_of Hertz b = pos (down_of b).frequency
read_of FrequencySteps b = pos (three_of b)
read_of TxPower b = pos (down_of b).tx_power
read_of Delay b = pos (down_of b).delay
read_of Timestamp b = pos (four_of b)
read_of Mic b = pos (four_of b)

abbrev pub least_of : Field → ℤ
least_of TypeCode = pos type_least
least_of HopCount = pos hops_least
least_of UplinkId = pos uplink_id_least
least_of Dr = pos dr_least
least_of Rssi = rssi_least
least_of Snr = snr_least
least_of Odd = pos odd_least
least_of Channel = pos channel_least
least_of RelayId = pos relay_id_least
least_of Hertz = pos hertz_least
least_of FrequencySteps = pos 0
least_of TxPower = pos tx_power_least
least_of Delay = pos delay_least
least_of Timestamp = pos timestamp_least
least_of Mic = pos mic_least

abbrev pub most_of : Field → ℤ
most_of TypeCode = pos type_most
most_of HopCount = pos hops_most
most_of UplinkId = pos uplink_id_most
most_of Dr = pos dr_most
most_of Rssi = rssi_most
most_of Snr = snr_most
most_of Odd = pos odd_most
most_of Channel = pos channel_most
most_of RelayId = pos relay_id_most
most_of Hertz = pos hertz_most
most_of FrequencySteps = pos steps_most
most_of TxPower = pos tx_power_most
most_of Delay = pos delay_most
most_of Timestamp = pos timestamp_most
most_of Mic = pos mic_most

-- x is no smaller than the one, and no larger than the other
abbrev pub Within : ℤ → ℤ → ℤ → Type 0
Within least most x = (lt_z x least ≡ false) × (lt_z most x ≡ false)

between : (a b n : ℕ) → a ≤ n → n ≤ b → Within (pos a) (pos b) (pos n)
between a b n l m = (le-ltb n a l, le-ltb b n m)

rssi_within : (n : ℕ) → n < 256 → Within rssi_least rssi_most (rssi_of n)
unfolding rssi_of
rssi_within zero h = (refl, refl)
rssi_within (suc n) h = (le-ltb 254 n (omega arith), refl)

snr_within : (n : ℕ) → Within snr_least snr_most (snr_of n).snr
unfolding snr_of
snr_within n = by (ltb (n % 64) 32) refl
  where
    by : (t : Bool) → ltb (n % 64) 32 ≡ t → Within snr_least snr_most (pick t (pos (n % 64)) (neg_ℤ (pos (64 - n % 64))))
    by true e = let l = ltb-true (n % 64) 32 e in (refl, le-ltb 31 (n % 64) (omega arith))
    by false e =
        let l = ltb-false (n % 64) 32 e in
        let s : 64 - n % 64 ≡ suc (63 - n % 64) = omega arith in
        rw s (le-ltb 31 (63 - n % 64) (omega arith), refl)

odd_within : (n : ℕ) → n < 256 → Within (pos odd_least) (pos odd_most) (pos (snr_of n).odd)
odd_within n h = let o = odd_is n in between 0 3 (snr_of n).odd (omega arith) (omega arith)

scaled_most : (n : ℕ) → n < 16777216 → (t : Bool) → pick t (n * 200) (n * 100) ≤ 3355443000
scaled_most n l true = omega arith
scaled_most n l false = omega arith

module _ (b : List ℕ) (h : Bytes b) where
  three_lt : three_of b < 16777216
  three_lt = be_lt (get_or b 2 0 ∷ get_or b 3 0 ∷ get_or b 4 0 ∷ []) (small (h 2 ▸ h 3 ▸ h 4 ▸ none))

  four_lt : four_of b < 4294967296
  four_lt = be_lt (get_or b 0 0 ∷ get_or b 1 0 ∷ get_or b 2 0 ∷ get_or b 3 0 ∷ []) (small (h 0 ▸ h 1 ▸ h 2 ▸ h 3 ▸ none))

  four_within : Within (pos 0) (pos 4294967295) (pos (four_of b))
  four_within = let l = four_lt in between 0 4294967295 (four_of b) (omega arith) (omega arith)

  hertz_within : Within (pos hertz_least) (pos hertz_most) (read_of Hertz b)
  unfolding hertz_of
  hertz_within = between 0 3355443000 (scaled (three_of b)) (omega arith) (scaled_most (three_of b) three_lt (leb 12000000 (three_of b)))

  pub read_within : (f : Field) → Within (least_of f) (most_of f) (read_of f b)
  read_within TypeCode = between 0 3 (get_or b 0 0 / 8 % 4) (omega arith) (omega arith)
  read_within HopCount = between 1 8 (get_or b 0 0 % 8 + 1) (omega arith) (omega arith)
  read_within UplinkId =
      let u = h 0 in let v = h 1 in between 0 4095 (get_or b 0 0 * 16 + get_or b 1 0 / 16) (omega arith) (omega arith)
  read_within Dr = between 0 15 (get_or b 1 0 % 16) (omega arith) (omega arith)
  read_within Rssi = rssi_within (get_or b 2 0) (h 2)
  read_within Snr = snr_within (get_or b 3 0)
  read_within Odd = odd_within (get_or b 3 0) (h 3)
  read_within Channel = let u = h 4 in between 0 255 (get_or b 4 0) (omega arith) (omega arith)
  read_within RelayId = four_within
  read_within Hertz = hertz_within
  read_within FrequencySteps = let l = three_lt in between 0 16777215 (three_of b) (omega arith) (omega arith)
  read_within TxPower = let u = h 5 in between 0 15 (get_or b 5 0 / 16) (omega arith) (omega arith)
  read_within Delay = between 1 16 (get_or b 5 0 % 16 + 1) (omega arith) (omega arith)
  read_within Timestamp = four_within
  read_within Mic = four_within

-- x is read of six bytes that are alike
abbrev pub Read : Field → ℤ → Type 0
Read f x = (v : ℕ) × (v < 256) × (read_of f (replicate 6 v) ≡ x)

pub both_read : (f : Field) → Read f (least_of f) × Read f (most_of f)
unfolding rssi_of snr_of hertz_of be_of be_more
both_read TypeCode = ((0, lit< tt, refl), (255, lit< tt, refl))
both_read HopCount = ((0, lit< tt, refl), (255, lit< tt, refl))
both_read UplinkId = ((0, lit< tt, refl), (255, lit< tt, refl))
both_read Dr = ((0, lit< tt, refl), (255, lit< tt, refl))
both_read Rssi = ((255, lit< tt, refl), (0, lit< tt, refl))
both_read Snr = ((32, lit< tt, refl), (31, lit< tt, refl))
both_read Odd = ((0, lit< tt, refl), (255, lit< tt, refl))
both_read Channel = ((0, lit< tt, refl), (255, lit< tt, refl))
both_read RelayId = ((0, lit< tt, refl), (255, lit< tt, refl))
both_read Hertz = ((0, lit< tt, refl), (255, lit< tt, refl))
both_read FrequencySteps = ((0, lit< tt, refl), (255, lit< tt, refl))
both_read TxPower = ((0, lit< tt, refl), (255, lit< tt, refl))
both_read Delay = ((0, lit< tt, refl), (255, lit< tt, refl))
both_read Timestamp = ((0, lit< tt, refl), (255, lit< tt, refl))
both_read Mic = ((0, lit< tt, refl), (255, lit< tt, refl))
