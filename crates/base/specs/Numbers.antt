-- The refusal numbers and limits of docs/RULES.md, under the names of `Refusal` and `Limit` in src/. Assumes nothing.
use Rattle.std.specs.Prelude.{ℕ}

abbrev pub frame_empty : ℕ
frame_empty = 1

abbrev pub frame_short : ℕ
frame_short = 2

abbrev pub not_mesh : ℕ
not_mesh = 3

abbrev pub body_short : ℕ
body_short = 4

abbrev pub frame_long : ℕ
frame_long = 5

abbrev pub hops_none : ℕ
hops_none = 6

abbrev pub hops_many : ℕ
hops_many = 7

abbrev pub uplink_id_large : ℕ
uplink_id_large = 8

abbrev pub dr_large : ℕ
dr_large = 9

abbrev pub rssi_large : ℕ
rssi_large = 10

abbrev pub rssi_small : ℕ
rssi_small = 11

abbrev pub snr_small : ℕ
snr_small = 12

abbrev pub snr_large : ℕ
snr_large = 13

abbrev pub delay_none : ℕ
delay_none = 14

abbrev pub tx_power_large : ℕ
tx_power_large = 15

abbrev pub delay_large : ℕ
delay_large = 16

abbrev pub frequency_large : ℕ
frequency_large = 17

abbrev pub frequency_step : ℕ
frequency_step = 18

abbrev pub item_long : ℕ
item_long = 19

abbrev pub heartbeat_length : ℕ
heartbeat_length = 20

abbrev pub output_short : ℕ
output_short = 21

abbrev pub open_many : ℕ
open_many = 22

abbrev pub open_one : ℕ
open_one = 23

abbrev pub cache_size : ℕ
cache_size = 24

abbrev pub key_length : ℕ
key_length = 25

abbrev pub key_digit : ℕ
key_digit = 26

abbrev pub mic_missing : ℕ
mic_missing = 27

abbrev pub frequency_length : ℕ
frequency_length = 28

abbrev pub type_large : ℕ
type_large = 29

abbrev pub line_digits : ℕ
line_digits = 30

abbrev pub frequency_other : ℕ
frequency_other = 38

abbrev pub outside : ℕ
outside = 45

abbrev pub frame_most : ℕ
frame_most = 8192

-- a frame but for its MIC, a frame's body, and an event's or a command's payload: what is left of the most that a frame may be
abbrev pub message_most : ℕ
message_most = 8188

abbrev pub body_most : ℕ
body_most = 8187

abbrev pub payload_most : ℕ
payload_most = 8179

abbrev pub item_most : ℕ
item_most = 255

abbrev pub path_most : ℕ
path_most = 42

abbrev pub entry_bytes : ℕ
entry_bytes = 6

abbrev pub cache_least : ℕ
cache_least = 1

abbrev pub cache_most : ℕ
cache_most = 64
