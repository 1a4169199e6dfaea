-- Each public call of this crate has one outcome. Assumes nothing.
use mathlib.Core.Path.{refl, sym, ◌∙◌}
use Rattle.base.proofs.Outcome.{Fixed}
use Rattle.fields.proofs.header.PayloadType.from_byte.Kinds as type_from_byte_kinds
use Rattle.fields.proofs.header.PayloadType.from_byte.Reads as type_from_byte_reads
use Rattle.fields.proofs.header.PayloadType.to_byte.Kinds as type_to_byte_kinds
use Rattle.fields.proofs.header.PayloadType.to_byte.Reads as type_to_byte_reads
use Rattle.fields.proofs.header.MHDR.from_byte.Kinds as header_from_byte_kinds
use Rattle.fields.proofs.header.MHDR.from_byte.Reads as header_from_byte_reads
use Rattle.fields.proofs.header.MHDR.to_byte.Kinds as header_to_byte_kinds
use Rattle.fields.proofs.header.MHDR.to_byte.Reads as header_to_byte_reads
use Rattle.fields.proofs.freq.steps.Kinds as steps_kinds
use Rattle.fields.proofs.freq.steps.Reads as steps_reads
use Rattle.fields.proofs.freq.encode_freq.Kinds as encode_freq_kinds
use Rattle.fields.proofs.freq.encode_freq.Reads as encode_freq_reads
use Rattle.fields.proofs.freq.hertz.Kinds as hertz_kinds
use Rattle.fields.proofs.freq.hertz.Reads as hertz_reads
use Rattle.fields.proofs.freq.decode_freq.Kinds as decode_freq_kinds
use Rattle.fields.proofs.freq.decode_freq.Reads as decode_freq_reads
use Rattle.fields.proofs.signal.rssi_of.Kinds as rssi_of_kinds
use Rattle.fields.proofs.signal.rssi_of.Reads as rssi_of_reads
use Rattle.fields.proofs.signal.snr_of.Kinds as snr_of_kinds
use Rattle.fields.proofs.signal.snr_of.Reads as snr_of_reads
use Rattle.fields.proofs.signal.rssi_byte.Kinds as rssi_byte_kinds
use Rattle.fields.proofs.signal.rssi_byte.Reads as rssi_byte_reads
use Rattle.fields.proofs.signal.snr_byte.Kinds as snr_byte_kinds
use Rattle.fields.proofs.signal.snr_byte.Reads as snr_byte_reads
use Rattle.fields.proofs.meta.UplinkMetadata.from_bytes.Kinds as up_from_bytes_kinds
use Rattle.fields.proofs.meta.UplinkMetadata.from_bytes.Reads as up_from_bytes_reads
use Rattle.fields.proofs.meta.UplinkMetadata.to_bytes.Kinds as up_to_bytes_kinds
use Rattle.fields.proofs.meta.UplinkMetadata.to_bytes.Reads as up_to_bytes_reads
use Rattle.fields.proofs.meta.DownlinkMetadata.from_bytes.Kinds as down_from_bytes_kinds
use Rattle.fields.proofs.meta.DownlinkMetadata.from_bytes.Reads as down_from_bytes_reads
use Rattle.fields.proofs.meta.DownlinkMetadata.to_bytes.Kinds as down_to_bytes_kinds
use Rattle.fields.proofs.meta.DownlinkMetadata.to_bytes.Reads as down_to_bytes_reads
use Rattle.fields.proofs.path.RelayPath.from_bytes.Kinds as path_from_bytes_kinds
use Rattle.fields.proofs.path.RelayPath.from_bytes.Reads as path_from_bytes_reads
use Rattle.fields.proofs.path.RelayPath.to_bytes.Kinds as path_to_bytes_kinds
use Rattle.fields.proofs.path.RelayPath.to_bytes.Reads as path_to_bytes_reads
use Rattle.fields.proofs.path.RelayPath.all_even.Kinds as all_even_kinds
use Rattle.fields.proofs.path.RelayPath.all_even.Reads as all_even_reads
use Rattle.fields.proofs.header.PayloadType.limits.Kinds as type_limits_kinds
use Rattle.fields.proofs.header.PayloadType.limits.Reads as type_limits_reads
use Rattle.fields.proofs.freq.Frequency.limits.Kinds as frequency_limits_kinds
use Rattle.fields.proofs.freq.Frequency.limits.Reads as frequency_limits_reads
use Rattle.fields.proofs.meta.UplinkId.limits.Kinds as id_limits_kinds
use Rattle.fields.proofs.meta.UplinkId.limits.Reads as id_limits_reads
use Rattle.fields.proofs.meta.Dr.limits.Kinds as dr_limits_kinds
use Rattle.fields.proofs.meta.Dr.limits.Reads as dr_limits_reads
use Rattle.fields.proofs.meta.Channel.limits.Kinds as channel_limits_kinds
use Rattle.fields.proofs.meta.Channel.limits.Reads as channel_limits_reads
use Rattle.fields.proofs.signal.Odd.limits.Kinds as odd_limits_kinds
use Rattle.fields.proofs.signal.Odd.limits.Reads as odd_limits_reads
use Rattle.fields.proofs.meta.TxPower.limits.Kinds as tx_power_limits_kinds
use Rattle.fields.proofs.meta.TxPower.limits.Reads as tx_power_limits_reads
use Rattle.fields.proofs.word.RelayId.limits.Kinds as relay_limits_kinds
use Rattle.fields.proofs.word.RelayId.limits.Reads as relay_limits_reads
use Rattle.fields.proofs.word.Timestamp.limits.Kinds as timestamp_limits_kinds
use Rattle.fields.proofs.word.Timestamp.limits.Reads as timestamp_limits_reads
use Rattle.fields.proofs.word.Mic.limits.Kinds as mic_limits_kinds
use Rattle.fields.proofs.word.Mic.limits.Reads as mic_limits_reads

type_from_byte : Fixed 0 type_from_byte_kinds.ps type_from_byte_kinds.r type_from_byte_reads.Post
type_from_byte κs a x y v w p q = (p ∙ sym q, refl)

type_to_byte : Fixed 0 type_to_byte_kinds.ps type_to_byte_kinds.r type_to_byte_reads.Post
type_to_byte κs a x y v w p q = (p ∙ sym q, refl)

header_from_byte : Fixed 0 header_from_byte_kinds.ps header_from_byte_kinds.r header_from_byte_reads.Post
header_from_byte κs a x y v w p q = (p ∙ sym q, refl)

header_to_byte : Fixed 0 header_to_byte_kinds.ps header_to_byte_kinds.r header_to_byte_reads.Post
header_to_byte κs a x y v w p q = (p ∙ sym q, refl)

steps : Fixed 0 steps_kinds.ps steps_kinds.r steps_reads.Post
steps κs a x y v w p q = (p ∙ sym q, refl)

encode_freq : Fixed 0 encode_freq_kinds.ps encode_freq_kinds.r encode_freq_reads.Post
encode_freq κs a x y v w p q = (p ∙ sym q, refl)

hertz : Fixed 0 hertz_kinds.ps hertz_kinds.r hertz_reads.Post
hertz κs a x y v w p q = (p ∙ sym q, refl)

decode_freq : Fixed 1 decode_freq_kinds.ps decode_freq_kinds.r decode_freq_reads.Post
decode_freq κs a x y v w p q = (p ∙ sym q, refl)

rssi_of_lem : Fixed 0 rssi_of_kinds.ps rssi_of_kinds.r rssi_of_reads.Post
rssi_of_lem κs a x y v w p q = (p ∙ sym q, refl)

snr_of_lem : Fixed 0 snr_of_kinds.ps snr_of_kinds.r snr_of_reads.Post
snr_of_lem κs a x y v w p q = (p ∙ sym q, refl)

rssi_byte_lem : Fixed 0 rssi_byte_kinds.ps rssi_byte_kinds.r rssi_byte_reads.Post
rssi_byte_lem κs a x y v w p q = (p ∙ sym q, refl)

snr_byte_lem : Fixed 0 snr_byte_kinds.ps snr_byte_kinds.r snr_byte_reads.Post
snr_byte_lem κs a x y v w p q = (p ∙ sym q, refl)

up_from_bytes : Fixed 0 up_from_bytes_kinds.ps up_from_bytes_kinds.r up_from_bytes_reads.Post
up_from_bytes κs a x y v w p q = (p ∙ sym q, refl)

up_to_bytes : Fixed 0 up_to_bytes_kinds.ps up_to_bytes_kinds.r up_to_bytes_reads.Post
up_to_bytes κs a x y v w p q = (p ∙ sym q, refl)

down_from_bytes : Fixed 0 down_from_bytes_kinds.ps down_from_bytes_kinds.r down_from_bytes_reads.Post
down_from_bytes κs a x y v w p q = (p ∙ sym q, refl)

down_to_bytes : Fixed 0 down_to_bytes_kinds.ps down_to_bytes_kinds.r down_to_bytes_reads.Post
down_to_bytes κs a x y v w p q = (p ∙ sym q, refl)

path_from_bytes : Fixed 0 path_from_bytes_kinds.ps path_from_bytes_kinds.r path_from_bytes_reads.Post
path_from_bytes κs a x y v w p q = (p ∙ sym q, refl)

path_to_bytes : Fixed 0 path_to_bytes_kinds.ps path_to_bytes_kinds.r path_to_bytes_reads.Post
path_to_bytes κs a x y v w p q = (p ∙ sym q, refl)

all_even_lem : Fixed 1 all_even_kinds.ps all_even_kinds.r all_even_reads.Post
all_even_lem κs a x y v w p q = (p ∙ sym q, refl)

type_limits : Fixed 0 type_limits_kinds.ps type_limits_kinds.r type_limits_reads.Post
type_limits κs a x y v w p q = (p ∙ sym q, refl)

frequency_limits : Fixed 0 frequency_limits_kinds.ps frequency_limits_kinds.r frequency_limits_reads.Post
frequency_limits κs a x y v w p q = (p ∙ sym q, refl)

id_limits : Fixed 0 id_limits_kinds.ps id_limits_kinds.r id_limits_reads.Post
id_limits κs a x y v w p q = (p ∙ sym q, refl)

dr_limits : Fixed 0 dr_limits_kinds.ps dr_limits_kinds.r dr_limits_reads.Post
dr_limits κs a x y v w p q = (p ∙ sym q, refl)

channel_limits : Fixed 0 channel_limits_kinds.ps channel_limits_kinds.r channel_limits_reads.Post
channel_limits κs a x y v w p q = (p ∙ sym q, refl)

odd_limits : Fixed 0 odd_limits_kinds.ps odd_limits_kinds.r odd_limits_reads.Post
odd_limits κs a x y v w p q = (p ∙ sym q, refl)

tx_power_limits : Fixed 0 tx_power_limits_kinds.ps tx_power_limits_kinds.r tx_power_limits_reads.Post
tx_power_limits κs a x y v w p q = (p ∙ sym q, refl)

relay_limits : Fixed 0 relay_limits_kinds.ps relay_limits_kinds.r relay_limits_reads.Post
relay_limits κs a x y v w p q = (p ∙ sym q, refl)

timestamp_limits : Fixed 0 timestamp_limits_kinds.ps timestamp_limits_kinds.r timestamp_limits_reads.Post
timestamp_limits κs a x y v w p q = (p ∙ sym q, refl)

mic_limits : Fixed 0 mic_limits_kinds.ps mic_limits_kinds.r mic_limits_reads.Post
mic_limits κs a x y v w p q = (p ∙ sym q, refl)
