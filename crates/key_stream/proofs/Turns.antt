-- What a turn of each loop does, a byte more of a block and a block more of the stream; and each answer of `encrypt_events_commands`.
-- Assumes nothing.
use Rattle.std.proofs.Common.{◌≡◌, ℕ, zero, suc, ◌+◌, ◌-◌, ◌/◌, ◌%◌, ◌<◌, ◌≤◌, min, Bool, List, [], ◌∷◌, ◌++◌, length, get_or, take, drop, sym, refl, ap, ◌∙◌, ap₂, append_assoc, le_of_suc-le-suc, not-suc-le-zero, add-zero, add-suc, zero-lt-suc, suc-add, zero-add, arith, length-take, length-take-le, drop-drop, take_at, take-add, drop_at}
use lib.Bits.{bit_xor}
use lib.Seq.{length-paste}
use Rattle.base.specs.Numbers.{frame_long, output_short, payload_most}
use Rattle.base.specs.Lists.{added, imap}
use Rattle.base.specs.Blocks.{Block}
use Rattle.base.specs.Answers.{answer_of, out_of}
use Rattle.base.specs.declared.Written.TheVariants.{Bytes, Refused}
use Rattle.base.proofs.Lists.{◌◂◌, imap_drop, imap_take}
use Rattle.base.proofs.Answers.{room, no_room}
use Rattle.wire.specs.Lay.{put}
use Rattle.wire.proofs.Laws.Lay.{Laying, laying_none, laying_done, put_whole, put_front}
use Rattle.fips197.specs.Aes.{aes}
use Rattle.cipher.specs.inner.Words.{prepared, enciphered}
use Rattle.key_stream.specs.Stream.{numbered, block_number, stream_block, stream_byte, streamed, sealed_of}
use Rattle.key_stream.proofs.Laws.{streamed_length, prepared_stream, seal_long, seal_fits}

-- as many bytes of k as x has are enough
pub added_all : (x k : List ℕ) (n : ℕ) → length x ≤ n → added x (take n k) ≡ added x k
unfolding added
added_all [] k n h = refl
added_all (a ∷ x) [] zero h = refl
added_all (a ∷ x) [] (suc n) h = refl
added_all (a ∷ x) (b ∷ k) zero h = absurd (not-suc-le-zero h)
added_all (a ∷ x) (b ∷ k) (suc n) h = refl ◂ added_all x k n (le_of_suc-le-suc h)

-- a block added, where its bytes are those of f from i on
by_place : (f : ℕ → ℕ) (i : ℕ) (s k : List ℕ) → length s ≤ length k → ((j : ℕ) → j < length k → get_or k j 0 ≡ f (i + j))
    → added s k ≡ imap (λ j x. bit_xor x (f j)) i s
unfolding added
by_place f i [] k h e = refl
by_place f i (a ∷ s) [] h e = absurd (not-suc-le-zero h)
by_place f i (a ∷ s) (b ∷ k) h e =
    ap (bit_xor a) (e 0 (zero-lt-suc (length k)) ∙ ap f (add-zero i))
    ◂ by_place f (suc i) s k (le_of_suc-le-suc h) (λ j l. e (suc j) (omega arith) ∙ ap f (add-suc i j ∙ sym (suc-add i j)))

-- the stream is being added to o, block by block: so far to the first `at` bytes, and n is the next block's number
pub record Adding (E : List ℕ → List ℕ) (A : ℕ → List ℕ) (o buf : List ℕ) (n at : ℕ) : Type 0 where
  pub laying : Laying o 0 (streamed E A o) buf at
  pub whole : at < length o → at % 16 ≡ 0
  pub number : at < length o → n ≡ block_number (at / 16)

module _ (E : List ℕ → List ℕ) (A : ℕ → List ℕ) where
  pub adding_none : (o : List ℕ) → Adding E A o o 1 0
  adding_none o = record { laying = laying_none o 0 (streamed E A o); whole = λ h. refl; number = λ h. refl }

  -- byte j of the block at a place
  key_at : (at j : ℕ) → at % 16 ≡ 0 → j < 16 → get_or (E (A (block_number (at / 16)))) j 0 ≡ stream_byte E A (at + j)
  unfolding stream_byte stream_block
  key_at at j h l =
      let d : (at + j) / 16 ≡ at / 16 = omega arith in
      let m : (at + j) % 16 ≡ j = omega arith in
      rw (d, m)

  -- a block, or what is left for it
  part_is : (o k : List ℕ) (at m : ℕ) → m ≤ 16 → length k ≡ 16 → at % 16 ≡ 0 → k ≡ E (A (block_number (at / 16)))
      → added (take m (drop at o)) k ≡ take m (drop at (streamed E A o))
  unfolding streamed
  part_is o k at m h l z e =
      let f : ℕ → ℕ → ℕ = λ i x. bit_xor x (stream_byte E A i) in
      let n : length (take m (drop at o)) ≤ length k = rw length-take (omega arith) in
      by_place (stream_byte E A) at (take m (drop at o)) k n (λ j q. ap (λ (x : List ℕ). get_or x j 0) e ∙ key_at at j z (omega arith))
      ∙ sym (ap (take m) (imap_drop f 0 at o ∙ ap (λ (i : ℕ). imap f i (drop at o)) (zero-add at)) ∙ imap_take f at m (drop at o))

  -- one more: the part of buf from `at` up to e, at most 16 bytes, has become v
  pub adding_more : (o k v buf : List ℕ) (n n' at e : ℕ) → at < length o → e ≡ at + min 16 (length o - at) → length k ≡ 16 → k ≡ E (A n)
      → v ≡ added (take (e - at) (drop at buf)) k → n' ≡ (n + 1) % 256 → Adding E A o buf n at
      → Adding E A o (take at buf ++ (v ++ drop (e - at) (drop at buf))) n' e
  adding_more o k v buf n n' at e h q l p x r a =
      let w = streamed E A o in
      let z = a.whole h in
      let number = a.number h in
      let long : length w ≡ length o = streamed_length E A o in
      let most : e ≤ length w = omega arith in
      let few : e - at ≤ 16 = omega arith in
      let join : at + (e - at) ≡ e = omega arith in
      let sofar : buf ≡ take at w ++ drop at o = rw zero-add at a.laying.sofar in
      let front : take at buf ≡ take at w = ap (take at) sofar ∙ take_at (take at w) (drop at o) at (length-take-le at w (omega arith)) in
      let rest : drop at buf ≡ drop at o = ap (drop at) sofar ∙ drop_at (take at w) (drop at o) at (length-take-le at w (omega arith)) in
      let part : v ≡ take (e - at) (drop at w) =
      x ∙ ap (λ (y : List ℕ). added (take (e - at) y) k) rest ∙ part_is o k at (e - at) few l z (p ∙ ap (λ (i : ℕ). E (A i)) number) in
      let now : take at buf ++ (v ++ drop (e - at) (drop at buf)) ≡ take e w ++ drop (0 + e) o =
      rw (front, part, rest, drop-drop, join, zero-add, ← append_assoc, ← take-add, join) in
      record {
        laying = record { most = most; same = ap length now ∙ length-paste o 0 w e (omega arith) most; sofar = now };
        whole = λ g. omega arith;
        number = λ g. omega arith;
      }

  pub adding_done : (o buf : List ℕ) (n at : ℕ) → length o ≤ at → Adding E A o buf n at → buf ≡ streamed E A o
  adding_done o buf n at h a =
      let long : length (streamed E A o) ≡ length o = streamed_length E A o in
      laying_done o 0 (streamed E A o) (omega arith) buf at (omega arith) a.laying ∙ put_whole o (streamed E A o) long

-- sealing s into o
module _ (key : List ℕ) (ev : Bool) (relay time : ℕ) (s o : List ℕ) where
  pub too_long_lem : payload_most < length s → (Refused frame_long ≡ answer_of (sealed_of key ev relay time s) o) × (o ≡ out_of (sealed_of key ev relay time s) o)
  unfolding answer_of out_of
  too_long_lem h = (rw (seal_long key ev relay time s h), rw (seal_long key ev relay time s h))

  pub too_short : length s ≤ payload_most → length o < length s
      → (Refused output_short ≡ answer_of (sealed_of key ev relay time s) o) × (o ≡ out_of (sealed_of key ev relay time s) o)
  too_short h g =
      let n : length (streamed (aes key) (numbered ev relay time) s) ≡ length s = streamed_length (aes key) (numbered ev relay time) s in
      let p = no_room (streamed (aes key) (numbered ev relay time) s) o (omega arith) in
      rw (seal_fits key ev relay time s h) (sym p.0, sym p.1)

  -- l is the output with s copied to its front, and x the stream added to that front
  pub sealed_in : Block key → length s ≤ payload_most → length s ≤ length o → {l x e : List ℕ} → l ≡ put o 0 s → e ≡ prepared key
      → x ≡ streamed (enciphered e) (numbered ev relay time) (take (length s) l)
      → (Bytes (length s) ≡ answer_of (sealed_of key ev relay time s) o) × (x ++ drop (length s) l ≡ out_of (sealed_of key ev relay time s) o)
  sealed_in k h g {l} {x} {e} p q r =
      let w = streamed (aes key) (numbered ev relay time) s in
      let n : length w ≡ length s = streamed_length (aes key) (numbered ev relay time) s in
      let a : l ≡ s ++ drop (length s) o = p ∙ put_front o s g ∙ (room s o g).1 in
      let b : x ≡ w =
      r ∙ ap₂ (λ (y z : List ℕ). streamed (enciphered y) (numbered ev relay time) z) q (ap (take (length s)) a ∙ take_at s (drop (length s) o) (length s) refl)
      ∙ prepared_stream key k ev relay time s in
      let d : drop (length s) l ≡ drop (length s) o = ap (drop (length s)) a ∙ drop_at s (drop (length s) o) (length s) refl in
      let f = rw n at (room w o (omega arith)) in
      rw (seal_fits key ev relay time s h, b, d) (sym f.0, sym f.1)
