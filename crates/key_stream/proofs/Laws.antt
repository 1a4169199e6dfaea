-- What callers use of sealing: twice gives the payload back, the length stays, bytes stay bytes, the stream repeats after 256 blocks, and
-- ciphers that agree on blocks give the same. Assumes nothing.
use Rattle.std.proofs.Common.{◌≡◌, ℕ, zero, suc, ◌+◌, ◌/◌, ◌%◌, ◌<◌, ◌≤◌, Bool, true, false, ltb, List, [], ◌∷◌, length, get_or, sym, refl, ap, ◌∙◌, arith, lit<, ltb-false, le-ltb, lt-ltb}
use lib.Bits.{bit_xor, xor_lt}
use Rattle.base.specs.Pick.{pick}
use Rattle.base.specs.Numbers.{frame_long, payload_most}
use Rattle.base.specs.Lists.{Bytes, imap}
use Rattle.base.specs.Blocks.{Block, Agree}
use Rattle.base.specs.Answers.{bytes, refused}
use Rattle.base.proofs.Xor.{xor_twice_r}
use Rattle.base.proofs.Lists.{imap_length, imap_at, imap_same, imap_id, imap_twice}
use Rattle.wire.specs.Number.{be_bytes}
use Rattle.wire.proofs.Laws.Number.{be_small}
use Rattle.fips197.specs.Aes.{aes}
use Rattle.fips197.proofs.Bytes.{aes_block}
use Rattle.cipher.specs.inner.Words.{prepared, enciphered}
use Rattle.cipher.proofs.Laws.{prepared_agrees}
use Rattle.key_stream.specs.Stream.{number_bytes, numbered, block_number, stream_block, stream_byte, streamed, sealed_of}

-- the block number is one byte
pub number_lt : (i : ℕ) → block_number i < 256
number_lt i = omega arith

-- bytes added to bytes
each_lt : (f : ℕ → ℕ) → ((i : ℕ) → f i < 256) → (i : ℕ) (s : List ℕ) → Bytes s → Bytes (imap (λ j x. bit_xor x (f j)) i s)
each_lt f h i [] b k = omega arith
each_lt f h i (x ∷ s) b zero = xor_lt 8 x (f i) (b 0) (h i)
each_lt f h i (x ∷ s) b (suc k) = each_lt f h (suc i) s (λ j. b (suc j)) k

module _ (E : List ℕ → List ℕ) (A : ℕ → List ℕ) where
  -- 8.2, whose first block is 0 here: its number is 1, that of block 255 is 0, and block 256 is as block 0
  pub block_1 : stream_block E A 0 ≡ E (A 1)
  unfolding stream_block
  block_1 = refl

  pub block_256 : stream_block E A 255 ≡ E (A 0)
  unfolding stream_block
  block_256 = refl

  pub repeats : (i : ℕ) → stream_block E A (i + 256) ≡ stream_block E A i
  unfolding stream_block
  repeats i =
      let e : block_number (i + 256) ≡ block_number i = omega arith in
      ap (λ (n : ℕ). E (A n)) e

  pub streamed_length : (s : List ℕ) → length (streamed E A s) ≡ length s
  unfolding streamed
  streamed_length s = imap_length (λ i x. bit_xor x (stream_byte E A i)) 0 s

  pub streamed_at : (s : List ℕ) (i : ℕ) → i < length s → get_or (streamed E A s) i 0 ≡ bit_xor (get_or s i 0) (stream_byte E A i)
  unfolding streamed
  streamed_at s i h = imap_at (λ i x. bit_xor x (stream_byte E A i)) s i h

  -- opening is sealing, whatever the cipher
  pub sealed_twice : (s : List ℕ) → streamed E A (streamed E A s) ≡ s
  unfolding streamed
  sealed_twice s =
      let f : ℕ → ℕ → ℕ = λ i x. bit_xor x (stream_byte E A i) in
      imap_twice f f 0 s ∙ imap_id (λ i x. f i (f i x)) 0 s (λ i x. xor_twice_r x (stream_byte E A i))

  pub streamed_bytes : ((n : ℕ) → n < 256 → Bytes (E (A n))) → (s : List ℕ) → Bytes s → Bytes (streamed E A s)
  unfolding streamed stream_byte stream_block
  streamed_bytes h s b = each_lt (stream_byte E A) (λ i. h (block_number (i / 16)) (number_lt (i / 16)) (i % 16)) 0 s b

-- ciphers that agree on blocks
module _ (E F : List ℕ → List ℕ) (agree : Agree E F) (A : ℕ → List ℕ) (block : (n : ℕ) → n < 256 → Block (A n)) where
  pub stream_same : (s : List ℕ) → streamed E A s ≡ streamed F A s
  unfolding streamed stream_byte stream_block
  stream_same s =
      imap_same (λ i x. bit_xor x (stream_byte E A i)) (λ i x. bit_xor x (stream_byte F A i)) 0 s
      (λ i x.
      let n = block_number (i / 16) in
      ap (λ (k : List ℕ). bit_xor x (get_or k (i % 16) 0)) (agree.same (A n) (block n (number_lt (i / 16)))))

-- a list of bytes, of which `_` can be told
record Small (s : List ℕ) : Type 0 where
  bytes_of_lem : Bytes s

none : Small []
none = record { bytes_of_lem = λ i. lit< tt }

infixr 5 ◌▸◌
◌▸◌ : {a : ℕ} {s : List ℕ} → a < 256 → Small s → Small (a ∷ s)
◌▸◌ {a} {s} h b = record { bytes_of_lem = by } where
  by : Bytes (a ∷ s)
  by zero = h
  by (suc i) = b.bytes_of_lem i

kind_lt : (ev : Bool) → pick ev 0 1 < 256
kind_lt true = lit< tt
kind_lt false = lit< tt

pub numbered_block : (ev : Bool) (relay time n : ℕ) → n < 256 → Block (numbered ev relay time n)
unfolding numbered be_bytes
numbered_block ev relay time n h =
    let z : 0 < 256 = lit< tt in
    let o : 1 < 256 = lit< tt in
    let r = be_small 4 relay in
    let t = be_small 4 time in
    let c : get_or (number_bytes n) 0 0 < 256 = omega arith in
    let d : get_or (number_bytes n) 1 0 < 256 = omega arith in
    let a = o ▸ z ▸ z ▸ z ▸ z ▸ kind_lt ev ▸ r 0 ▸ r 1 ▸ r 2 ▸ r 3 ▸ t 0 ▸ t 1 ▸ t 2 ▸ t 3 ▸ c ▸ d ▸ none in
    record { long = refl; small = a.bytes_of_lem }

-- under a key of 16 bytes
module _ (key : List ℕ) (k : Block key) (ev : Bool) (relay time : ℕ) where
  pub prepared_stream : (s : List ℕ) → streamed (enciphered (prepared key)) (numbered ev relay time) s ≡ streamed (aes key) (numbered ev relay time) s
  prepared_stream = stream_same (enciphered (prepared key)) (aes key) (prepared_agrees key k) (numbered ev relay time) (numbered_block ev relay time)

  pub sealed_bytes : (s : List ℕ) → Bytes s → Bytes (streamed (aes key) (numbered ev relay time) s)
  sealed_bytes = streamed_bytes (aes key) (numbered ev relay time) (λ n h. (aes_block key k.small (numbered ev relay time n) (numbered_block ev relay time n h).small).small)

-- a payload sealed
module _ (key : List ℕ) (ev : Bool) (relay time : ℕ) where
  pub seal_long : (s : List ℕ) → payload_most < length s → sealed_of key ev relay time s ≡ refused frame_long
  unfolding sealed_of
  seal_long s h = simp (lt-ltb payload_most (length s) h)

  pub seal_fits : (s : List ℕ) → length s ≤ payload_most → sealed_of key ev relay time s ≡ bytes (streamed (aes key) (numbered ev relay time) s)
  unfolding sealed_of
  seal_fits s h = simp (le-ltb payload_most (length s) h)

  -- what was sealed opens, and what was opened seals
  pub seal_twice : (s w : List ℕ) → sealed_of key ev relay time s ≡ bytes w → sealed_of key ev relay time w ≡ bytes s
  unfolding sealed_of
  seal_twice s w p = by (ltb payload_most (length s)) refl p where
    by : (t : Bool) → ltb payload_most (length s) ≡ t → pick t (refused frame_long) (bytes (streamed (aes key) (numbered ev relay time) s)) ≡ bytes w
        → sealed_of key ev relay time w ≡ bytes s
    by true e q = absurd (let z : ◌≡◌ {A = ℕ} 0 1 = cc in omega arith)
    by false e q =
        let v : streamed (aes key) (numbered ev relay time) s ≡ w = cc in
        let n : length w ≡ length s = ap length (sym v) ∙ streamed_length (aes key) (numbered ev relay time) s in
        let h : length s ≤ payload_most = ltb-false _ _ e in
        seal_fits w (omega arith) ∙ ap bytes (rw v at (sealed_twice (aes key) (numbered ev relay time) s))
