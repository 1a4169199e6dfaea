-- What the rules say of fields, keys, items and least lengths, by their numbers in docs/RULES.md. Assumes nothing.
use Prim.Native.Nat.{ℕ, zero, suc, ◌+◌, ◌-◌, ◌*◌, ◌/◌, ◌%◌, ◌≤◌, ◌<◌}
use native.Mathlib.Omega.{arith}
use mathlib.Core.Bool.{Bool, true, false, not}
use mathlib.Core.Path.{◌≡◌, refl, sym, ap, ◌∙◌}
use mathlib.Core.Logic.{◌⊎◌, inl, inr}
use lib.Dec.{ltb, leb, eqb}
use mathlib.Core.List.{◌++◌, List, [], ◌∷◌, map}
use lib.IntN.{ℤ, pos, negsuc, neg_ℤ}
use lib.ListN.{length, get_or, take, drop, replicate}
use borrow.Author.Tests.{lt-ltb, le-ltb, ltb-true, ltb-false, le-leb, lt-leb, leb-true, leb-false, eq-eqb, ne_eqb, eqb-true, eqb-false}
use Rattle.base.specs.Pick.{pick}
use Rattle.base.specs.Lists.{Bytes}
use Rattle.base.proofs.Lists.{listed}
use Rattle.base.specs.Blocks.{Block}
use Rattle.base.specs.Numbers.{hops_none, hops_many, not_mesh, type_large, key_length, key_digit, frequency_large, frequency_step, frequency_length, frequency_other, body_short, cache_size, item_long, heartbeat_length, output_short, outside}
use Rattle.base.specs.Answers.{value, number, bytes, refused, checked_says}
use Rattle.wire.specs.Number.{be_of, be_bytes}
use Rattle.wire.proofs.Laws.Number.{be_lt}
use Rattle.wire.specs.Hex.{all_hex, unhex, hex_text}
use Rattle.wire.specs.Run.{run_at, run_refusal, run_bytes}
use Rattle.wire.specs.declared.run.Run.{Run}
use Rattle.fips197.specs.Aes.{aes}
use Rattle.keys.specs.Key.{key_of, key_says, key_from_slice, key_from_text}
use Rattle.derivation.specs.Derived.{signing_key, encryption_key}
use Rattle.keys.proofs.Laws.{text_back}
use Rattle.fields.specs.Header.{type_read, code_of, header_of, header_byte, type_says, header_says, byte_says}
use Rattle.fields.specs.Freq.{scaled, hertz_of, hertz_in, freq_read, halved_of, steps_of, exact_steps, freq_wire, freq_says, steps_says}
use Rattle.fields.specs.declared.freq.FreqRead.TheVariants as freq
use Rattle.fields.specs.Limits.{hertz_most}
use Rattle.fields.specs.Signal.{rssi_of, rssi_byte, even_byte, even_at, snr_of, snr_byte, signal_says}
use Rattle.fields.specs.Meta.{up_of, even, up_wire, down_of, down_wire}
use Rattle.fields.specs.Path.{path_of, even_entry, path_wire}
use Rattle.fields.specs.declared.header.MHDR.{MHDR}
use Rattle.fields.specs.declared.header.PayloadType.{PayloadType}
use Rattle.fields.specs.declared.meta.UplinkMetadata.{UplinkMetadata}
use Rattle.fields.specs.declared.meta.DownlinkMetadata.{DownlinkMetadata}
use Rattle.fields.specs.declared.path.RelayPath.{RelayPath}
use Rattle.fields.proofs.Laws.Header.{type_back, header_back, header_again, not_marked}
use Rattle.fields.proofs.Laws.Bytes.{none, ◌▸◌, small}
use Rattle.fields.proofs.Laws.Freq.{bytes_scaled, freq_of_scaled, freq_again, freq_steps, freq_length, freq_bytes_lem}
use Rattle.fields.proofs.Laws.Signal.{rssi_back, rssi_again, snr_back, snr_again, odd_is}
use Rattle.fields.proofs.Laws.Meta.{up_back, up_again, up_same, up_even, down_back, down_again}
use Rattle.fields.proofs.Laws.Path.{path_back, path_again, path_same, path_even}
use Rattle.heartbeats.specs.Heartbeat.{six_at, entry_at, paths_of, beat_refusal, entry_refusal, beat_of, path_after, entry_read, beat_wire, beat_says, path_says, no_path, FourByteIds}
use Rattle.heartbeats.specs.declared.heartbeat.HeartbeatPayload.{HeartbeatPayload}
use Rattle.heartbeats.specs.declared.heartbeat.HeartbeatRead.TheVariants.{Heartbeat, Refused as NoBeat}
use Rattle.heartbeats.specs.declared.heartbeat.PathRead.TheVariants.{Entry, Refused as NoEntry}
use Rattle.heartbeats.proofs.Laws.{refused_entries, taken_entries, beat_back, even_beat}
use Rattle.items.specs.Items.{is_beat, bad_beat, opening_of, kind_of, path_kind, item_at, Turn, walked_to, kept_item, no_item, item_says, listed_items}
use Rattle.items.specs.declared.count.Opening.{Opening}
use Rattle.items.specs.declared.item.Item.{Item}
use Rattle.items.specs.declared.item.ItemKind.TheVariants.{Encrypted}
use Rattle.items.proofs.Laws.{turn, walk_ends, kept_whole}
use Rattle.items.proofs.Clean.{clean_whole, command_clean}
use Rattle.kept_items.specs.Kept.{item_bytes, open_bytes}
use Rattle.kept_items.proofs.Clean.{clean_as_written}
use Rattle.composed_items.specs.Composed.{Lists, lists, tag_of, composed_wire, lent_back}
use Rattle.composed_items.specs.One.{one_wire, sealed_wire, encoded_of}
use Rattle.composed_items.proofs.Alone.{read_encoded, read_encoded_plain, read_again, one_read, one_composed}
use Rattle.composed_items.proofs.Again.{written_back}
use Rattle.contents.specs.Content.{Lent, framed, content_wire}
use Rattle.contents.specs.declared.content.Content.{Content}
use Rattle.contents.specs.declared.content.Content.TheVariants.{Sealed}
use Rattle.links.specs.declared.uplink.UplinkPayload.{UplinkPayload}
use Rattle.packets.specs.Read.{mesh_of, mesh_says, even_payload, even_mesh}
use Rattle.packets.specs.Write.{payload_wire, mesh_frame}
use Rattle.packets.specs.declared.mesh.Payload.{Payload}
use Rattle.packets.specs.declared.mesh.Payload.TheVariants.{Uplink}
use Rattle.packets.specs.declared.mesh.MeshPacket.{MeshPacket}
use Rattle.round_trips.proofs.Even.{odd_found, even_body, even_written}
use Rattle.sealing.specs.Open.{seal_wire, decrypt_of, work_after, decode_of, told, opened_says}
use Rattle.sealing.proofs.Clean.{decrypted_clean, decoded_clean}
use Rattle.round_trips.specs.Which.{least_frame, mesh_number}
use Rattle.cache.specs.inner.Ring.{new_of}
use Rattle.promises.specs.Said.{Accepts}
use Rattle.promises.proofs.Said.{mesh_said, header_said, byte_said, signal_said, item_said, opened_said}
use Rattle.promises.proofs.Demand2.{mesh_reader_reads, mesh_reader_refuses}

-- ---- the header byte

-- 5.3: the header byte
pub header_byte_lem : (t : PayloadType) (n : ℕ) → 1 ≤ n → n ≤ 8 → byte_says (header_byte (record { payload_type = t; hop_count = n })) ≡ value (224 + code_of t * 8 + (n - 1))
unfolding header_byte
header_byte_lem t n l m = simp (le-ltb n 1 l, le-ltb 8 n m)

-- 3.6, 3.7
pub hop_count_none : (t : PayloadType) → byte_says (header_byte (record { payload_type = t; hop_count = 0 })) ≡ number hops_none
unfolding header_byte
hop_count_none t = refl

pub hop_count_many : (t : PayloadType) (n : ℕ) → 8 < n → byte_says (header_byte (record { payload_type = t; hop_count = n })) ≡ number hops_many
unfolding header_byte
hop_count_many t n l = let k : 1 ≤ n = omega arith in simp (le-ltb n 1 k, lt-ltb 8 n l)

-- written and read back, read and written again; 3.3
pub header_written_then_read : (h : MHDR) (b : ℕ) → byte_says (header_byte h) ≡ value b → header_says (header_of b) ≡ value h
header_written_then_read h b e = ap header_says (header_back h b (byte_said (header_byte h) b e))

pub header_read_then_written : (b : ℕ) → b < 256 → (h : MHDR) → header_says (header_of b) ≡ value h → byte_says (header_byte h) ≡ value b
header_read_then_written b l h e = ap byte_says (header_again b l h (header_said (header_of b) h e))

pub header_not_mesh : (b : ℕ) → (b / 32 ≡ 7 → ⊥) → header_says (header_of b) ≡ number not_mesh
header_not_mesh b h = ap header_says (not_marked b h)

-- 3.29; each type's code reads back as it
pub type_code_large : (n : ℕ) → 3 < n → type_says (type_read n) ≡ number type_large
unfolding type_read
type_code_large n l = simp (ne_eqb n 0 (λ z. omega arith), ne_eqb n 1 (λ z. omega arith), ne_eqb n 2 (λ z. omega arith), ne_eqb n 3 (λ z. omega arith))

pub type_code_read : (t : PayloadType) → type_says (type_read (code_of t)) ≡ value t
type_code_read t = ap type_says (type_back t)

-- ---- rssi, snr, frequency

-- 5.6
pub rssi_is_minus_the_byte : (b : ℕ) → b < 256 → (rssi_of b ≡ neg_ℤ (pos b)) × (signal_says (rssi_byte (rssi_of b)) ≡ value b)
unfolding rssi_of
rssi_is_minus_the_byte b h = (refl, ap signal_says (rssi_again b h))

pub rssi_written_then_read : (x : ℤ) (b : ℕ) → signal_says (rssi_byte x) ≡ value b → rssi_of b ≡ x
rssi_written_then_read x b e = rssi_back x b (signal_said (rssi_byte x) b e)

-- 5.7: an snr byte is read as its number and its odd bits, o, as found
pub snr_byte_is_read : (o n : ℕ) → n < 32 → (snr_of (o * 64 + n) ≡ record { snr = pos n; odd = o }) × (snr_of (o * 64 + (63 - n)) ≡ record { snr = negsuc n; odd = o })
unfolding snr_of
snr_byte_is_read o n l =
    let a : (o * 64 + n) % 64 ≡ n = omega arith in
    let b : (o * 64 + n) / 64 ≡ o = omega arith in
    let c : (o * 64 + (63 - n)) % 64 ≡ 63 - n = omega arith in
    let d : (o * 64 + (63 - n)) / 64 ≡ o = omega arith in
    let e : 64 - (63 - n) ≡ suc n = omega arith in
    (rw (a, b, lt-ltb n 32 l) refl, rw (c, d, e, le-ltb (63 - n) 32 (omega arith)) refl)

pub snr_read_then_written : (b : ℕ) → b < 256 → signal_says (snr_byte (snr_of b).snr) ≡ value (even_byte b)
snr_read_then_written b h = ap signal_says (snr_again b h)

pub snr_written_then_read : (x : ℤ) (b : ℕ) → signal_says (snr_byte x) ≡ value b → snr_of b ≡ record { snr = x; odd = 0 }
snr_written_then_read x b e = snr_back x b (signal_said (snr_byte x) b e)

-- 5.12: of a frequency f below 2.4 GHz, and from there up of its half
pub frequency_too_large : (f : ℕ) → 16777215 < halved_of f / 100 → steps_says (exact_steps f) ≡ number frequency_large
unfolding exact_steps steps_of
frequency_too_large f h = simp (lt-ltb 16777215 (halved_of f / 100) h)

pub frequency_no_step : (f : ℕ) → halved_of f / 100 ≤ 16777215 → (halved_of f % 100 ≡ 0 → ⊥) → steps_says (exact_steps f) ≡ number frequency_step
unfolding exact_steps steps_of
frequency_no_step f h e = simp (le-ltb 16777215 (halved_of f / 100) h, ne_eqb (halved_of f % 100) 0 e)

-- 5.14: of what is left, 38 where the three bytes are read as another, and else it is written
module _ (f : ℕ) (fits : halved_of f / 100 ≤ 16777215) (whole : halved_of f % 100 ≡ 0) where
  pub frequency_other_lem : (hertz_in (be_bytes 3 (halved_of f / 100)) ≡ f → ⊥) → steps_says (exact_steps f) ≡ number frequency_other
  unfolding exact_steps steps_of
  frequency_other_lem h =
      simp (le-ltb 16777215 (halved_of f / 100) fits, eq-eqb (halved_of f % 100) 0 whole, ne_eqb (hertz_in (be_bytes 3 (halved_of f / 100))) f h)

  pub frequency_written : hertz_in (be_bytes 3 (halved_of f / 100)) ≡ f → steps_says (exact_steps f) ≡ value (halved_of f / 100)
  unfolding exact_steps steps_of
  frequency_written h =
      simp (le-ltb 16777215 (halved_of f / 100) fits, eq-eqb (halved_of f % 100) 0 whole, eq-eqb (hertz_in (be_bytes 3 (halved_of f / 100))) f h)

-- n steps that are read as another: of 200 Hz, since those of 100 Hz are read as they were
wide : (f n : ℕ) → halved_of f ≡ n * 100 → 12000000 ≤ n → n ≤ 16777215 → (n * 200 ≡ f → ⊥) → steps_says (exact_steps f) ≡ number frequency_other
wide f n g l m h =
    let d : halved_of f / 100 ≡ n = ap (λ (x : ℕ). x / 100) g ∙ omega arith in
    let w : n * 100 % 100 ≡ 0 = omega arith in
    let r : hertz_in (be_bytes 3 n) ≡ n * 200 = bytes_scaled n (omega arith) ∙ simp (le-leb 12000000 n l) in
    frequency_other_lem f (rw d m) (rw g w) (λ e. h (sym r ∙ ap (λ (x : ℕ). hertz_in (be_bytes 3 x)) (sym d) ∙ e))

-- which are whole steps from 1.2 GHz up to the most, which would be read as their double, ..
pub frequency_doubled : (f : ℕ) → 1200000000 ≤ f → f ≤ 1677721500 → f % 100 ≡ 0 → steps_says (exact_steps f) ≡ number frequency_other
unfolding halved_of
frequency_doubled f l m w =
    let g : halved_of f ≡ f / 100 * 100 = simp (lt-leb 2400000000 f (omega arith)) (omega arith) in
    wide f (f / 100) g (omega arith) (omega arith) (λ e. omega arith)

-- .. and from 2.4 GHz on those whose half is cut, ..
pub frequency_cut : (f : ℕ) → 2400000000 ≤ f → f ≤ 3355443001 → f % 200 ≡ 1 → steps_says (exact_steps f) ≡ number frequency_other
unfolding halved_of
frequency_cut f l m w =
    let g : halved_of f ≡ f / 200 * 100 = simp (le-leb 2400000000 f l) (omega arith) in
    wide f (f / 200) g (omega arith) (omega arith) (λ e. omega arith)

-- .. and no others
abbrev pub Misread : ℕ → Type 0
Misread f = ((1200000000 ≤ f) × (f ≤ 1677721500) × (f % 100 ≡ 0)) ⊎ ((2400000000 ≤ f) × (f ≤ 3355443001) × (f % 200 ≡ 1))

pub frequency_other_only : (f : ℕ) → steps_says (exact_steps f) ≡ number frequency_other → Misread f
unfolding halved_of
frequency_other_only f e = by (ltb 16777215 (halved_of f / 100)) (eqb (halved_of f % 100) 0) (eqb (hertz_in (be_bytes 3 (halved_of f / 100))) f) refl refl refl
  where
    low : (n : ℕ) → f ≡ n * 100 → n ≤ 16777215 → (t : Bool) → leb 12000000 n ≡ t → (pick t (n * 200) (n * 100) ≡ f → ⊥) → Misread f
    low n g m true p h = let l = leb-true 12000000 n p in inl (omega arith, omega arith, omega arith)
    low n g m false p h = absurd (h (sym g))

    of : (t : Bool) → leb 2400000000 f ≡ t → (n : ℕ) → pick t (f / 2) f ≡ n * 100 → n ≤ 16777215 → (scaled n ≡ f → ⊥) → Misread f
    of true p n g m h =
        let l = leb-true 2400000000 f p in
        let r : n * 200 ≡ f → ⊥ = λ z. h (simp (le-leb 12000000 n (omega arith)) z) in
        let k : f ≡ n * 200 + 1 = omega arith in
        inr (l, omega arith, omega arith)
    of false p n g m h = low n g m (leb 12000000 n) refl h

    by : (t u v : Bool) → ltb 16777215 (halved_of f / 100) ≡ t → eqb (halved_of f % 100) 0 ≡ u → eqb (hertz_in (be_bytes 3 (halved_of f / 100))) f ≡ v → Misread f
    by true u v p q r =
        let a = sym (frequency_too_large f (ltb-true 16777215 (halved_of f / 100) p)) ∙ e in let z : ◌≡◌ {A = ℕ} 0 1 = cc in absurd (omega arith)
    by false false v p q r =
        let a = sym (frequency_no_step f (ltb-false 16777215 (halved_of f / 100) p) (eqb-false (halved_of f % 100) 0 q)) ∙ e in
        let z : ◌≡◌ {A = ℕ} 0 1 = cc in absurd (omega arith)
    by false true true p q r =
        let a = sym (frequency_written f (ltb-false 16777215 (halved_of f / 100) p) (eqb-true (halved_of f % 100) 0 q) (eqb-true _ _ r)) ∙ e in
        let z : ◌≡◌ {A = ℕ} 0 1 = cc in absurd (omega arith)
    by false true false p q r =
        let l = ltb-false 16777215 (halved_of f / 100) p in
        let w = eqb-true (halved_of f % 100) 0 q in
        of (leb 2400000000 f) refl (halved_of f / 100) (omega arith) l (λ z. eqb-false _ _ r (bytes_scaled (halved_of f / 100) (omega arith) ∙ z))

-- what is written is read as it was; three bytes, read and written, are the same bytes
pub frequency_written_then_read : (f : ℕ) (w : List ℕ) → freq_wire f ≡ bytes w → freq_says (freq_read w) ≡ value f
unfolding freq_read
frequency_written_then_read f w e = simp (eq-eqb (length w) 3 (freq_length f w e)) (ap value (freq_steps f w e).2)

pub frequency_read_then_written : (s : List ℕ) (f : ℕ) → Bytes s → freq_says (freq_read s) ≡ value f → freq_wire f ≡ bytes s
unfolding freq_read
frequency_read_then_written s f h e = by (eqb (length s) 3) refl e
  where
    by : (t : Bool) → eqb (length s) 3 ≡ t → freq_says (pick t (freq.Hertz (hertz_in s)) (freq.Refused frequency_length)) ≡ value f → freq_wire f ≡ bytes s
    by true p q =
        let v : hertz_in s ≡ f = cc in
        ap freq_wire (sym v) ∙ freq_again (get_or s 0 0) (get_or s 1 0) (get_or s 2 0) (h 0) (h 1) (h 2) ∙ ap bytes (listed 3 s (eqb-true (length s) 3 p))
    by false p q = let z : ◌≡◌ {A = ℕ} 0 1 = cc in absurd (omega arith)

-- so reading is one to one, and onto what is written: a frequency is written exactly if some bytes are read as it
pub frequency_read_one_to_one : (s t : List ℕ) (f : ℕ) → Bytes s → Bytes t → freq_says (freq_read s) ≡ value f → freq_says (freq_read t) ≡ value f → s ≡ t
frequency_read_one_to_one s t f h k d e = let z : bytes s ≡ bytes t = sym (frequency_read_then_written s f h d) ∙ frequency_read_then_written t f k e in cc

pub frequency_written_exactly_if_read : (f : ℕ)
    → ((w : List ℕ) × (freq_wire f ≡ bytes w) → (s : List ℕ) × (Bytes s) × (freq_says (freq_read s) ≡ value f))
    × ((s : List ℕ) × (Bytes s) × (freq_says (freq_read s) ≡ value f) → (w : List ℕ) × (freq_wire f ≡ bytes w))
frequency_written_exactly_if_read f =
    (λ a. (a.0, freq_bytes_lem f a.0 a.1, frequency_written_then_read f a.0 a.1), λ a. (a.0, frequency_read_then_written a.0 f a.1 a.2))

-- 6.2: these are whole 100 Hz under 1.2 GHz, and whole 200 Hz from 2.4 GHz to the most
abbrev pub InBand : ℕ → Type 0
InBand f = ((f < 1200000000) × (f % 100 ≡ 0)) ⊎ ((2400000000 ≤ f) × (f ≤ hertz_most) × (f % 200 ≡ 0))

pub frequency_bands : (f : ℕ) → ((w : List ℕ) × (freq_wire f ≡ bytes w) → InBand f) × (InBand f → (w : List ℕ) × (freq_wire f ≡ bytes w))
unfolding hertz_of
frequency_bands f = (λ a. band a.0 a.1, written)
  where
    of : (n : ℕ) → n < 16777216 → (t : Bool) → leb 12000000 n ≡ t → pick t (n * 200) (n * 100) ≡ f → InBand f
    of n l true p e = let m = leb-true 12000000 n p in inr (omega arith, omega arith, omega arith)
    of n l false p e = let m = leb-false 12000000 n p in inl (omega arith, omega arith)

    band : (w : List ℕ) → freq_wire f ≡ bytes w → InBand f
    band w e =
        let b = freq_bytes_lem f w e in
        let x = get_or w 0 0 ∷ get_or w 1 0 ∷ get_or w 2 0 ∷ [] in
        of (be_of x) (be_lt x (small (b 0 ▸ b 1 ▸ b 2 ▸ none))) (leb 12000000 (be_of x)) refl (freq_steps f w e).2

    written : InBand f → (w : List ℕ) × (freq_wire f ≡ bytes w)
    written (inl a) =
        let l = a.0 in
        let m = a.1 in
        let s : scaled (f / 100) ≡ f = simp (lt-leb 12000000 (f / 100) (omega arith)) (omega arith) in
        (be_bytes 3 (f / 100), ap freq_wire (sym s) ∙ freq_of_scaled (f / 100) (omega arith))
    written (inr a) =
        let l = a.0 in
        let m = a.1 in
        let n = a.2 in
        let s : scaled (f / 200) ≡ f = simp (le-leb 12000000 (f / 200) (omega arith)) (omega arith) in
        (be_bytes 3 (f / 200), ap freq_wire (sym s) ∙ freq_of_scaled (f / 200) (omega arith))

-- 3.28
pub frequency_not_three_bytes : (s : List ℕ) → (length s ≡ 3 → ⊥) → freq_says (freq_read s) ≡ number frequency_length
unfolding freq_read
frequency_not_three_bytes s h = simp (ne_eqb (length s) 3 h)

-- ---- metadata and path entries

pub uplink_metadata_read_then_written : (b : List ℕ) → length b ≡ 5 → Bytes b
    → up_wire (up_of b) ≡ bytes (even_at b 3)
uplink_metadata_read_then_written = up_again

pub uplink_metadata_written_then_read : (m : UplinkMetadata) (w : List ℕ) → m.channel < 256 → up_wire m ≡ bytes w → up_of w ≡ even m
uplink_metadata_written_then_read m w h e = (up_back m w h e).2

pub downlink_metadata_read_then_written : (b : List ℕ) → length b ≡ 6 → Bytes b
    → down_wire (down_of b) ≡ bytes (get_or b 0 0 ∷ get_or b 1 0 ∷ get_or b 2 0 ∷ get_or b 3 0 ∷ get_or b 4 0 ∷ get_or b 5 0 ∷ [])
downlink_metadata_read_then_written = down_again

pub downlink_metadata_written_then_read : (m : DownlinkMetadata) (w : List ℕ) → down_wire m ≡ bytes w → down_of w ≡ m
downlink_metadata_written_then_read m w e = (down_back m w e).2

pub path_entry_read_then_written : (b : List ℕ) → length b ≡ 6 → Bytes b
    → path_wire (path_of b) ≡ bytes (even_at b 5)
path_entry_read_then_written = path_again

pub path_entry_written_then_read : (p : RelayPath) (w : List ℕ) → p.relay_id < 4294967296 → path_wire p ≡ bytes w → path_of w ≡ even_entry p
path_entry_written_then_read p w h e = (path_back p w h e).2

-- 5.18: what is read of metadata, of a path entry and of a frame without their odd bits is what is read of them, with `odd` dropped (of a frame:
-- Demand2.read-but-for-odd-bits); written again, the bytes are the same exactly if `odd` is 0; and no writing looks at it
pub uplink_metadata_but_for_odd_bits : (b : List ℕ) → length b ≡ 5 → up_of (even_at b 3) ≡ even (up_of b)
uplink_metadata_but_for_odd_bits b l = up_even b (omega arith)

pub path_entry_but_for_odd_bits : (b : List ℕ) → length b ≡ 6 → path_of (even_at b 5) ≡ even_entry (path_of b)
path_entry_but_for_odd_bits = path_even

pub uplink_metadata_same_exactly_if_even : (b : List ℕ) → length b ≡ 5 → Bytes b
    → ((up_of b).odd ≡ 0 → up_wire (up_of b) ≡ bytes b) × (up_wire (up_of b) ≡ bytes b → (up_of b).odd ≡ 0)
uplink_metadata_same_exactly_if_even = up_same

pub path_entry_same_exactly_if_even : (b : List ℕ) → length b ≡ 6 → Bytes b
    → ((path_of b).odd ≡ 0 → path_wire (path_of b) ≡ bytes b) × (path_wire (path_of b) ≡ bytes b → (path_of b).odd ≡ 0)
path_entry_same_exactly_if_even = path_same

pub odd_bits_are_not_written : ((m : UplinkMetadata) → up_wire (even m) ≡ up_wire m) × ((p : RelayPath) → path_wire (even_entry p) ≡ path_wire p)
    × ((ps : List RelayPath) → beat_wire (map even_entry ps) ≡ beat_wire ps) × ((l : Lent) (q : Payload) → payload_wire l (even_payload q) ≡ payload_wire l q)
    × ((l : Lent) (p : MeshPacket) → mesh_frame l (even_mesh p) ≡ mesh_frame l p)
unfolding up_wire path_wire
odd_bits_are_not_written = (λ m. refl, λ p. refl, even_beat, even_body, even_written)

-- an uplink has those of byte 4 of its frame, and entry i of a heartbeat's value those of its last byte
pub uplink_odd_bits_as_found : (s : List ℕ) (p : MeshPacket) (u : UplinkPayload) → Bytes s → mesh_says (mesh_of s) ≡ value p → p.payload ≡ Uplink u
    → u.metadata.odd ≡ get_or s 4 0 / 64
uplink_odd_bits_as_found s p u h e = odd_found s p h (mesh_said (mesh_of s) p e) u

pub path_odd_bits_as_found : (v : List ℕ) (i : ℕ) (r : RelayPath) → path_says (entry_read v i) ≡ value r → r.odd ≡ get_or v (i * 6 + 5) 0 / 64
unfolding entry_read entry_at
path_odd_bits_as_found v i r e = by (eqb (entry_refusal (length v) i) 0) e
  where
    by : (t : Bool) → path_says (pick t (Entry (path_of (six_at v (i * 6)))) (NoEntry (entry_refusal (length v) i))) ≡ value r → r.odd ≡ get_or v (i * 6 + 5) 0 / 64
    by true z = let y : path_of (six_at v (i * 6)) ≡ r = cc in rw (← y) (odd_is (get_or v (i * 6 + 5) 0))
    by false z = let y : ◌≡◌ {A = ℕ} 0 1 = cc in absurd (omega arith)

-- ---- the shortest frames

-- 5.10: of a frame of 5 to 8,192 bytes whose first byte begins with 111
abbrev is_mesh : List ℕ → Type 0
is_mesh s = (5 ≤ length s) × (length s ≤ 8192) × (get_or s 0 0 / 32 ≡ 7)

pub long_enough : (s : List ℕ) → is_mesh s → least_frame (get_or s 0 0 / 8 % 4) ≤ length s → Accepts (mesh_says (mesh_of s))
unfolding mesh_number
long_enough s m l =
    let a : 5 ≤ length s = m.0 in
    let b : length s ≤ 8192 = m.1 in
    (mesh_reader_reads s).0
    (simp (ne_eqb (length s) 0 (λ z. omega arith), le-ltb 8192 (length s) b, le-ltb (length s) 5 a, eq-eqb (get_or s 0 0 / 32) 7 m.2, le-ltb (length s) (least_frame (get_or s 0 0 / 8 % 4)) l))

pub one_byte_less : (s : List ℕ) → is_mesh s → length s < least_frame (get_or s 0 0 / 8 % 4) → mesh_says (mesh_of s) ≡ number body_short
unfolding mesh_number
one_byte_less s m l =
    let a : 5 ≤ length s = m.0 in
    let b : length s ≤ 8192 = m.1 in
    mesh_reader_refuses s 3
    (simp (ne_eqb (length s) 0 (λ z. omega arith), le-ltb 8192 (length s) b, le-ltb (length s) 5 a, eq-eqb (get_or s 0 0 / 32) 7 m.2, lt-ltb (length s) (least_frame (get_or s 0 0 / 8 % 4)) l))

-- ---- keys

-- 3.25, 3.26, in the order of 4.17
pub key_not_sixteen : (s : List ℕ) → (length s ≡ 16 → ⊥) → key_says (key_from_slice s) ≡ number key_length
unfolding key_from_slice
key_not_sixteen s h = simp (ne_eqb (length s) 16 h)

pub key_text_not_thirty_two : (s : List ℕ) → (length s ≡ 32 → ⊥) → key_says (key_from_text s) ≡ number key_length
unfolding key_from_text
key_text_not_thirty_two s h = simp (ne_eqb (length s) 32 h)

pub key_text_not_hex : (s : List ℕ) → length s ≡ 32 → all_hex s ≡ false → key_says (key_from_text s) ≡ number key_digit
unfolding key_from_text
key_text_not_hex s h e = simp (eq-eqb (length s) 32 h, e)

pub key_text_read : (s : List ℕ) → length s ≡ 32 → all_hex s ≡ true → key_says (key_from_text s) ≡ value (key_of (unhex s))
unfolding key_from_text
key_text_read s h e = simp (eq-eqb (length s) 32 h, e)

pub key_written_then_read : (k : List ℕ) → Block k → key_says (key_from_text (hex_text k)) ≡ value (key_of k)
key_written_then_read k b = ap key_says (text_back k b)

-- 9.6, 9.7
pub derived_keys : (root : List ℕ) → (signing_key root ≡ aes root (replicate 16 0)) × (encryption_key root ≡ aes root (1 ∷ replicate 15 0))
unfolding signing_key encryption_key
derived_keys root = (refl, refl)

-- ---- items and heartbeats

-- 7.8: a payload is clean exactly if nothing was skipped or cut and each path entry is read without odd bits, which is: of each heartbeat that the
-- reader keeps, going from item to item, each six bytes
abbrev pub EntriesEven : Bool → List ℕ → Type 0
EntriesEven ev s =
    (n : ℕ) (i : Item) (next : ℕ) → item_says (item_at ev s (walked_to ev s n 0)) ≡ value (kept_item i next) → is_beat ev i.tag ≡ true
    → (k : ℕ) → k * 6 + 6 ≤ i.value.len → (path_of (six_at s (i.value.start + k * 6))).odd ≡ 0

pub clean_exactly_if_whole_and_even : (ev : Bool) (s : List ℕ)
    → ((opening_of ev s).clean ≡ true → ((opening_of ev s).skipped ≡ 0) × ((opening_of ev s).cut_bytes ≡ 0) × EntriesEven ev s)
    × (((opening_of ev s).skipped ≡ 0) × ((opening_of ev s).cut_bytes ≡ 0) × EntriesEven ev s → (opening_of ev s).clean ≡ true)
clean_exactly_if_whole_and_even ev s =
    let c = clean_whole ev s in (
      λ e. let a = c.0 e in (a.0, a.1, λ n i next q. a.2 n i next (item_said (item_at ev s (walked_to ev s n 0)) i next q)),
      λ a. c.1 (a.0, a.1, λ n i next q. a.2 n i next (ap item_says q)),
    )

-- in a command, where nothing is skipped and nothing is a heartbeat, exactly if nothing was cut
pub command_clean_exactly_if_nothing_cut : (s : List ℕ) → (opening_of false s).clean ≡ eqb (opening_of false s).cut_bytes 0
command_clean_exactly_if_nothing_cut = command_clean

-- and exactly if what is written of its kept items is the payload, of an event and of a command
pub clean_exactly_if_written_again : (ev : Bool) (s : List ℕ) → Bytes s → ((opening_of ev s).clean ≡ true → open_bytes ev s ≡ s) × (open_bytes ev s ≡ s → (opening_of ev s).clean ≡ true)
clean_exactly_if_written_again = clean_as_written

-- so it is of what `decrypt` opens into the work buffer w, of which s are the clear bytes, and of what `decode` opens in the frame f: with the
-- buffers that hold it lent, the content c is written as the payload exactly if its opening o is clean
pub decrypted_clean_exactly_if_written_again : (key : List ℕ) (ev : Bool) (relay time : ℕ) (r : Run) (f w s : List ℕ) (x : Lists) (c : Content) (o : Opening)
    → seal_wire key ev relay time f r ≡ bytes s → Bytes s → opened_says (decrypt_of key ev relay time (Sealed r) f w) ≡ value (told c o)
    → x.src ≡ work_after key ev relay time (Sealed r) f w
    → (o.clean ≡ true → content_wire ev (framed f x) c ≡ bytes s) × (content_wire ev (framed f x) c ≡ bytes s → o.clean ≡ true)
decrypted_clean_exactly_if_written_again key ev relay time r f w s x c o e b d m =
    decrypted_clean key ev relay time r f w s x c o e b m (opened_said (decrypt_of key ev relay time (Sealed r) f w) c o d)

pub decoded_clean_exactly_if_written_again : (ev : Bool) (r : Run) (f w : List ℕ) (x : Lists) (c : Content) (o : Opening)
    → Bytes (run_bytes f r) → opened_says (decode_of ev (Sealed r) f w) ≡ value (told c o)
    → (o.clean ≡ true → content_wire ev (framed f x) c ≡ bytes (run_bytes f r)) × (content_wire ev (framed f x) c ≡ bytes (run_bytes f r) → o.clean ≡ true)
decoded_clean_exactly_if_written_again ev r f w x c o b d = decoded_clean ev r f w x c o b (opened_said (decode_of ev (Sealed r) f w) c o d)

-- 7.9: what the item reader answers at a place, as `Turn` says, is the first of the payload's pieces from there, and where the next begins
pub one_item_at_a_time : (ev : Bool) (s : List ℕ) (at : ℕ) → Turn ev s at (item_at ev s at)
one_item_at_a_time ev s at = turn ev s at (item_at ev s at) refl

-- what is kept is no heartbeat whose length is no whole number of entries
pub kept_item_is_whole : (ev : Bool) (s : List ℕ) (at : ℕ) (i : Item) (next : ℕ) → item_says (item_at ev s at) ≡ value (kept_item i next)
    → bad_beat ev (get_or s at 0) (get_or s (at + 1) 0) ≡ false
kept_item_is_whole ev s at i next e = kept_whole ev s at i next (item_said (item_at ev s at) i next e)

-- whoever goes from each item to the place behind it comes to the end, after no more steps than the payload has bytes
pub walk_by_items_ends : (ev : Bool) (s : List ℕ) → item_says (item_at ev s (walked_to ev s (length s) 0)) ≡ value (no_item (length s))
walk_by_items_ends ev s = ap item_says (walk_ends ev s)

-- the items that reading lists, composed again as they were read, are written as the open payload itself is: its kept items, the odd
-- bits cleared
pub items_lent_back : (ev : Bool) (s : List ℕ) → Bytes s → composed_wire ev (lent_back ev s) (length (listed_items ev s)) ≡ bytes (open_bytes ev s)
items_lent_back ev s h = written_back ev s h

-- one item that is read is encoded as it stood, tag, length and value, the odd bits of a heartbeat cleared; of any other item that is its
-- own bytes
pub item_read_then_encoded : (ev : Bool) (s : List ℕ) → Bytes s → (at : ℕ) (i : Item) (next : ℕ) → item_says (item_at ev s at) ≡ value (kept_item i next)
    → encoded_of ev i s ≡ bytes (item_bytes (is_beat ev i.tag) i.tag (run_bytes s i.value))
item_read_then_encoded ev s h at i next e = read_encoded ev s h at i next (item_said (item_at ev s at) i next e)

pub plain_item_is_its_bytes : (ev : Bool) (s : List ℕ) → Bytes s → (at : ℕ) (i : Item) (next : ℕ) → item_says (item_at ev s at) ≡ value (kept_item i next)
    → is_beat ev i.tag ≡ false → encoded_of ev i s ≡ bytes (take (next - at) (drop at s))
plain_item_is_its_bytes ev s h at i next e = read_encoded_plain ev s h at i next (item_said (item_at ev s at) i next e)

-- and from these bytes alone the same item is read again
pub item_encoded_then_read : (ev : Bool) (s : List ℕ) → Bytes s → (at : ℕ) (i : Item) (next : ℕ) → item_says (item_at ev s at) ≡ value (kept_item i next)
    → (w : List ℕ) → encoded_of ev i s ≡ bytes w
    → item_says (item_at ev w 0) ≡ value (kept_item (record { kind = i.kind; tag = i.tag; value = run_at 2 i.value.len }) (length w))
item_encoded_then_read ev s h at i next e w f = ap item_says (read_again ev s h at i next (item_said (item_at ev s at) i next e) w f)

-- so is one of a kind, a tag and a value; it has the bytes that it has where it is composed, alone, in lists
pub item_written_then_read : (ev : Bool) (kind tag : ℕ) (v w : List ℕ) → one_wire ev kind tag v ≡ bytes w
    → item_says (item_at ev w 0) ≡ value (kept_item (record { kind = kind_of ev (tag_of kind tag); tag = tag_of kind tag; value = run_at 2 (length v) }) (length w))
item_written_then_read ev kind tag v w e = ap item_says (one_read ev kind tag v w e)

pub item_as_composed : (ev : Bool) (kind tag : ℕ) (v : List ℕ) → eqb kind path_kind ≡ false
    → composed_wire ev (lists ((kind ∷ tag ∷ []) ∷ []) ((0 ∷ length v ∷ []) ∷ []) [] [] [] v) 1 ≡ one_wire ev kind tag v
item_as_composed = one_composed

-- a sealed run taken as an item, that no frame holds
pub sealed_item_long : (ev : Bool) (tag : ℕ) (r : Run) (s : List ℕ) → run_refusal (length s) r ≡ 0 → 8179 < length (run_bytes s r)
    → encoded_of ev (record { kind = Encrypted; tag = tag; value = r }) s ≡ refused 5
unfolding encoded_of sealed_wire
sealed_item_long ev tag r s a b = rw (a, lt-ltb 8179 (length (run_bytes s r)) b) refl

-- 4.7
pub heartbeat_long : (v : List ℕ) (places : ℕ) → 255 < length v → beat_says (beat_of v places) ≡ number item_long
unfolding beat_of beat_refusal
heartbeat_long v places h = simp (lt-ltb 255 (length v) h)

pub heartbeat_uneven : (v : List ℕ) (places : ℕ) → length v ≤ 255 → 0 < length v % 6 → beat_says (beat_of v places) ≡ number heartbeat_length
unfolding beat_of beat_refusal
heartbeat_uneven v places h e = simp (le-ltb 255 (length v) h, lt-ltb 0 (length v % 6) e)

pub heartbeat_without_places : (v : List ℕ) (places : ℕ) → length v ≤ 255 → length v % 6 ≡ 0 → places < length v / 6 → beat_says (beat_of v places) ≡ number output_short
unfolding beat_of beat_refusal
heartbeat_without_places v places h e l =
    let z : length v % 6 ≤ 0 = omega arith in
    simp (le-ltb 255 (length v) h, le-ltb 0 (length v % 6) z, lt-ltb places (length v / 6) l)

-- a value refused with 19 or 20 has no entries: each is refused with that number. Of one that is read into a list of any length, those
-- below its count are there, and every other is 45
pub heartbeat_refused_has_no_entries : (v : List ℕ) (places i n : ℕ) → (n ≡ output_short → ⊥) → beat_says (beat_of v places) ≡ number n → path_says (entry_read v i) ≡ number n
heartbeat_refused_has_no_entries v places i n = refused_entries v places i n

pub heartbeat_entry : (v : List ℕ) (places i : ℕ) (h : HeartbeatPayload) → beat_says (beat_of v places) ≡ value h
    → (i < h.entries → path_says (entry_read v i) ≡ value (get_or (paths_of v) i no_path)) × (h.entries ≤ i → path_says (entry_read v i) ≡ number outside)
heartbeat_entry v places i h = taken_entries v places i h

-- a list that is read into has those entries first, odd bits and all, and behind them what it had
pub heartbeat_fills_the_list : (v : List ℕ) (ys : List RelayPath) (h : HeartbeatPayload) → beat_says (beat_of v (length ys)) ≡ value h
    → path_after v ys ≡ paths_of v ++ drop h.entries ys
unfolding beat_of path_after
heartbeat_fills_the_list v ys h = by (eqb (beat_refusal (length v) (length ys)) 0)
  where
    by : (t : Bool) → beat_says (pick t (Heartbeat (record { entries = length v / 6 })) (NoBeat (beat_refusal (length v) (length ys)))) ≡ value h
        → pick t (paths_of v ++ drop (length v / 6) ys) ys ≡ paths_of v ++ drop h.entries ys
    by true e = let g : record { entries = length v / 6 } ≡ h = cc in ap (λ (x : HeartbeatPayload). paths_of v ++ drop x.entries ys) g
    by false e = let z : ◌≡◌ {A = ℕ} 0 1 = cc in absurd (omega arith)

-- an item of tag 0 in an event is skipped exactly where its value is refused for its length
uneven : (n : ℕ) → bad_beat true 0 n ≡ ltb 0 (n % 6)
unfolding bad_beat
uneven n = go (n % 6)
  where
    go : (m : ℕ) → not (eqb m 0) ≡ ltb 0 m
    go zero = refl
    go (suc m) = let k : 0 < suc m = omega arith in simp (ne_eqb (suc m) 0 (omega arith), lt-ltb 0 (suc m) k)

pub heartbeat_skipped : (v : List ℕ) (places : ℕ) → length v ≤ 255 → bad_beat true 0 (length v) ≡ true → beat_says (beat_of v places) ≡ number heartbeat_length
unfolding beat_of beat_refusal
heartbeat_skipped v places h e = simp (le-ltb 255 (length v) h, sym (uneven (length v)) ∙ e)

pub heartbeat_kept : (v : List ℕ) (places : ℕ) → length v ≤ 255 → bad_beat true 0 (length v) ≡ false → length v / 6 ≤ places → beat_says (beat_of v places) ≡ value (record { entries = length v / 6 })
unfolding beat_of beat_refusal
heartbeat_kept v places h e l = simp (le-ltb 255 (length v) h, sym (uneven (length v)) ∙ e, le-ltb places (length v / 6) l)

pub heartbeat_written_then_read : (ps : List RelayPath) (w : List ℕ) → FourByteIds ps → beat_wire ps ≡ bytes w → paths_of w ≡ map even_entry ps
heartbeat_written_then_read ps w h e = (beat_back ps w h e).2

-- ---- the cache's size

-- 3.24
pub cache_of_none : checked_says (new_of 0).answer (new_of 0).cache ≡ number cache_size
unfolding new_of
cache_of_none = refl

pub cache_too_large : (n : ℕ) → 64 < n → checked_says (new_of n).answer (new_of n).cache ≡ number cache_size
unfolding new_of
cache_too_large n h = let k : 1 ≤ n = omega arith in simp (le-ltb n 1 k, lt-ltb 64 n h)
