-- What callers use of the cipher: prepared for a key, it is AES under that key. Assumes nothing.
use mathlib.Core.Path.{◌≡◌, sym, ap, subst, ◌∙◌}
use mathlib.Core.List.{List, [], ◌∷◌, ◌++◌, append-nil}
use Prim.Native.Nat.{ℕ, ◌+◌, ◌≤◌}
use native.Mathlib.Omega.{arith}
use lib.ListN.{length, set, take, drop, replicate, length-append}
use Rattle.std.proofs.lemmas.List.{take_at, drop_at}
use borrow.Rule.Slice.PartMut.{put_mid}
use Rattle.base.specs.Blocks.{Block, Agree}
use Rattle.base.proofs.Lists.{from_length}
use Rattle.wire.specs.Lay.{put}
use Rattle.wire.proofs.Laws.Lay.{two_puts, put_whole, laying_none, laying_more, laying_done}
use Rattle.cipher.specs.declared.Cols.{Cols}
use Rattle.fips197.specs.Aes.{aes}
use Rattle.cipher.specs.inner.Words.{col, loaded, te_table, key_words, prepared, enciphered}
use Rattle.fips197.proofs.Bytes.{aes_block}
use Rattle.cipher.proofs.Bridge.{table_length, columns_are_bytes}

pub prepared_agrees : (key : List ℕ) → Block key → Agree (enciphered (prepared key)) (aes key)
prepared_agrees key k =
    record {
      same = λ b h. columns_are_bytes key k.small b h.small;
      block = λ b h. subst Block (sym (columns_are_bytes key k.small b h.small)) (aes_block key k.small b h.small);
    }

-- ---- what is laid out

-- the table over the front of 260 words, and then the key's columns over what is left
pub copied_out : (key t w : List ℕ) (k : Cols) → t ≡ te_table → k ≡ loaded key → w ≡ k.a ∷ k.b ∷ k.c ∷ k.d ∷ []
    → put_mid 256 4 (t ++ replicate 4 0) w ≡ prepared key
unfolding loaded key_words prepared
copied_out key t w k p q r =
    let n : length t ≡ 256 = ap length p ∙ table_length in
    let f : take 256 (t ++ replicate 4 0) ≡ te_table = take_at t (replicate 4 0) 256 n ∙ p in
    let d : drop 256 (t ++ replicate 4 0) ≡ replicate 4 0 = drop_at t (replicate 4 0) 256 n in
    let m : w ≡ key_words key = r ∙ ap (λ (x : Cols). x.a ∷ x.b ∷ x.c ∷ x.d ∷ []) q in
    rw (f, d, m, append-nil)

key_words_length : (key : List ℕ) → length (key_words key) ≡ 4
unfolding key_words
key_words_length key = from_length 4 0 (col key)

pub key_laid : (o key : List ℕ) (k : Cols) → length o ≡ 260 → k ≡ loaded key
    → set (set (set (set o 256 k.a) 257 k.b) 258 k.c) 259 k.d ≡ put o 256 (key_words key)
unfolding loaded key_words
key_laid o key k e p =
    let w = key_words key in
    let n : length w ≡ 4 = key_words_length key in
    let fits : 256 + length w ≤ length o = omega arith in
    let one = laying_more o 256 w fits _ 0 k.a (omega arith) (ap (λ (x : Cols). x.a) p) (laying_none o 256 w) in
    let two = laying_more o 256 w fits _ 1 k.b (omega arith) (ap (λ (x : Cols). x.b) p) one in
    let three = laying_more o 256 w fits _ 2 k.c (omega arith) (ap (λ (x : Cols). x.c) p) two in
    let four = laying_more o 256 w fits _ 3 k.d (omega arith) (ap (λ (x : Cols). x.d) p) three in
    laying_done o 256 w fits _ 4 (omega arith) four

-- the table and then the key, over a buffer of just that length
pub laid_out : (o key : List ℕ) → length o ≡ 260 → put (put o 0 te_table) 256 (key_words key) ≡ prepared key
unfolding prepared
laid_out o key e =
    let t : length te_table ≡ 256 = table_length in
    let w : length (key_words key) ≡ 4 = key_words_length key in
    let n : length (te_table ++ key_words key) ≡ length o = simp length-append (omega arith) in
    two_puts o te_table (key_words key) 256 t (omega arith) ∙ put_whole o (te_table ++ key_words key) n
