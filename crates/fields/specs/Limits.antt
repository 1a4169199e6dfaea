-- The least and the largest value of each field, under the names of its type in src/; the type's are in Header. Assumes nothing.
use Rattle.std.specs.Prelude.{ℕ, ℤ, pos, negsuc}

abbrev pub hops_least : ℕ
hops_least = 1

abbrev pub hops_most : ℕ
hops_most = 8

abbrev pub uplink_id_least : ℕ
uplink_id_least = 0

abbrev pub uplink_id_most : ℕ
uplink_id_most = 4095

abbrev pub dr_least : ℕ
dr_least = 0

abbrev pub dr_most : ℕ
dr_most = 15

-- -255 and -32 are `negsuc` of one less
abbrev pub rssi_least : ℤ
rssi_least = negsuc 254

abbrev pub rssi_most : ℤ
rssi_most = pos 0

abbrev pub snr_least : ℤ
snr_least = negsuc 31

abbrev pub snr_most : ℤ
snr_most = pos 31

abbrev pub odd_least : ℕ
odd_least = 0

abbrev pub odd_most : ℕ
odd_most = 3

abbrev pub channel_least : ℕ
channel_least = 0

abbrev pub channel_most : ℕ
channel_most = 255

abbrev pub relay_id_least : ℕ
relay_id_least = 0

abbrev pub relay_id_most : ℕ
relay_id_most = 4294967295

-- hertz, and steps
abbrev pub hertz_least : ℕ
hertz_least = 0

abbrev pub hertz_most : ℕ
hertz_most = 3355443000

abbrev pub steps_most : ℕ
steps_most = 16777215

abbrev pub tx_power_least : ℕ
tx_power_least = 0

abbrev pub tx_power_most : ℕ
tx_power_most = 15

abbrev pub delay_least : ℕ
delay_least = 1

abbrev pub delay_most : ℕ
delay_most = 16

abbrev pub timestamp_least : ℕ
timestamp_least = 0

abbrev pub timestamp_most : ℕ
timestamp_most = 4294967295

abbrev pub mic_least : ℕ
mic_least = 0

abbrev pub mic_most : ℕ
mic_most = 4294967295
