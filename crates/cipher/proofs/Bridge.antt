-- The cipher by columns is the cipher by bytes. Assumes nothing.
use mathlib.Core.Path.{◌≡◌, refl, sym, ap, ap₂, ◌∙◌}
use mathlib.Core.List.{List, [], ◌∷◌}
use Prim.Native.Nat.{ℕ, zero, suc, ◌+◌, ◌*◌, ◌<◌}
use native.Mathlib.Omega.{arith}
use lib.Bits.{bit_xor, xor_lt, xor_comm, xor_zero_r}
use lib.Dec.{lit<}
use lib.ListN.{get_or, length, get_or-append}
use lib.Seq.{get_or-append-add}
use Rattle.base.specs.Lists.{Bytes, added}
use Rattle.base.proofs.Xor.{xor_assoc}
use Rattle.base.proofs.Lists.{◌◂◌, from_length, from_zero_at, added_length, added_lt}
use Rattle.wire.specs.Number.{be_more, be_of, be_bytes}
use Rattle.wire.proofs.Laws.Number.{bytes_of_lem, be_xor}
use Rattle.cipher.specs.declared.Cols.{Cols}
use Rattle.fips197.specs.Field.{mul, sbox_of}
use Rattle.fips197.specs.Aes.{state, at, sub_bytes, shift_rows, mixed, mix_columns, add_round_key, rcon, key_byte, next_key, round_key, round, last_round, rounds, aes}
use Rattle.cipher.specs.inner.Words.{word, byte_of, col, loaded, bytes_of, te_word, te_table, key_words, prepared, turned, sub, first_key, first_col, next_cols, key_cols, column, last_column, keyed, stepped, last_stepped, steps, enciphered}
use Rattle.fips197.proofs.Field.{mul_lt}
use Rattle.cipher.proofs.Columns.{cols}
use Rattle.fips197.proofs.Table.{sbox_lt}
use Rattle.cipher.proofs.Table.{te_at}
use Rattle.fips197.proofs.Bytes.{add_lt, last_lt, rounds_lt, rcon_lt, round_key_lt, key_byte_lt}

-- ---- words and their bytes

record Four (s : List ℕ) : Type 0 where
  pub long : length s ≡ 4
  pub small : Bytes s

each_small : (a b c d : ℕ) → a < 256 → b < 256 → c < 256 → d < 256 → Bytes (a ∷ b ∷ c ∷ d ∷ [])
each_small a b c d ha hb hc hd zero = ha
each_small a b c d ha hb hc hd (suc zero) = hb
each_small a b c d ha hb hc hd (suc (suc zero)) = hc
each_small a b c d ha hb hc hd (suc (suc (suc zero))) = hd
each_small a b c d ha hb hc hd (suc (suc (suc (suc i)))) = omega arith

four : {a b c d : ℕ} → a < 256 → b < 256 → c < 256 → d < 256 → Four (a ∷ b ∷ c ∷ d ∷ [])
four {a} {b} {c} {d} ha hb hc hd = record { long = refl; small = each_small a b c d ha hb hc hd }

four_added : (x y : List ℕ) → Four x → Four y → Four (added x y)
four_added x y p q = record { long = added_length x y ∙ p.long; small = added_lt x y p.small q.small }

four_xor : (x y : List ℕ) → Four x → Four y → bit_xor (be_of x) (be_of y) ≡ be_of (added x y)
four_xor x y p q = be_xor x y (p.long ∙ sym q.long) p.small q.small

byte_of_lem : (s : List ℕ) → Four s → (r : ℕ) → byte_of r (be_of s) ≡ get_or s r 0
unfolding byte_of
byte_of_lem s p r = ap (λ (n : ℕ). get_or (be_bytes n (be_of s)) r 0) (sym p.long) ∙ ap (λ (l : List ℕ). get_or l r 0) (bytes_of_lem s p.small)

turned_1 : (a b c d : ℕ) → a < 256 → b < 256 → c < 256 → d < 256 → turned 1 (word a b c d) ≡ word d a b c
unfolding be_of be_more turned
turned_1 a b c d ha hb hc hd = omega arith

turned_2 : (a b c d : ℕ) → a < 256 → b < 256 → c < 256 → d < 256 → turned 2 (word a b c d) ≡ word c d a b
unfolding be_of be_more turned
turned_2 a b c d ha hb hc hd = omega arith

turned_3 : (a b c d : ℕ) → a < 256 → b < 256 → c < 256 → d < 256 → turned 3 (word a b c d) ≡ word b c d a
unfolding be_of be_more turned
turned_3 a b c d ha hb hc hd = omega arith

word_eq : {a b c d a' b' c' d' : ℕ} → a ≡ a' → b ≡ b' → c ≡ c' → d ≡ d' → word a b c d ≡ word a' b' c' d'
word_eq p q r s = ap be_of (p ◂ q ◂ r ◂ s ◂ refl)

-- five words added, byte by byte
five : (v w x y z : List ℕ) → Four v → Four w → Four x → Four y → Four z
    → bit_xor (be_of v) (bit_xor (be_of w) (bit_xor (be_of x) (bit_xor (be_of y) (be_of z)))) ≡ be_of (added v (added w (added x (added y z))))
five v w x y z pv pw px py pz =
    let qy = four_added y z py pz in
    let qx = four_added x (added y z) px qy in
    let qw = four_added w (added x (added y z)) pw qx in
    ap (λ (n : ℕ). bit_xor (be_of v) (bit_xor (be_of w) (bit_xor (be_of x) n))) (four_xor y z py pz)
    ∙ ap (λ (n : ℕ). bit_xor (be_of v) (bit_xor (be_of w) n)) (four_xor x (added y z) px qy)
    ∙ ap (bit_xor (be_of v)) (four_xor w (added x (added y z)) pw qx)
    ∙ four_xor v (added w (added x (added y z))) pv qw

-- the order of a sum of five
r0 : (p q r u k : ℕ) → bit_xor p (bit_xor q (bit_xor r (bit_xor u k))) ≡ bit_xor (bit_xor p (bit_xor q (bit_xor r u))) k
r0 p q r u k =
    sym (xor_assoc p (bit_xor q (bit_xor r u)) k
    ∙ ap (bit_xor p) (xor_assoc q (bit_xor r u) k ∙ ap (bit_xor q) (xor_assoc r u k)))

turn : (p q r u : ℕ) → bit_xor p (bit_xor q (bit_xor r u)) ≡ bit_xor q (bit_xor r (bit_xor u p))
turn p q r u = xor_comm p (bit_xor q (bit_xor r u)) ∙ xor_assoc q (bit_xor r u) p ∙ ap (bit_xor q) (xor_assoc r u p)

r1 : (p q r u k : ℕ) → bit_xor p (bit_xor q (bit_xor r (bit_xor u k))) ≡ bit_xor (bit_xor q (bit_xor r (bit_xor u p))) k
r1 p q r u k = r0 p q r u k ∙ ap (λ (x : ℕ). bit_xor x k) (turn p q r u)

r2 : (p q r u k : ℕ) → bit_xor p (bit_xor q (bit_xor r (bit_xor u k))) ≡ bit_xor (bit_xor r (bit_xor u (bit_xor p q))) k
r2 p q r u k = r1 p q r u k ∙ ap (λ (x : ℕ). bit_xor x k) (turn q r u p)

r3 : (p q r u k : ℕ) → bit_xor p (bit_xor q (bit_xor r (bit_xor u k))) ≡ bit_xor (bit_xor u (bit_xor p (bit_xor q r))) k
r3 p q r u k = r2 p q r u k ∙ ap (λ (x : ℕ). bit_xor x k) (turn r u p q)

-- ---- columns of a state of bytes

module _ (s : List ℕ) (h : Bytes s) where
  col_four : (c : ℕ) → Four (at s 0 c ∷ at s 1 c ∷ at s 2 c ∷ at s 3 c ∷ [])
  col_four c = four (h (0 + 4 * c)) (h (1 + 4 * c)) (h (2 + 4 * c)) (h (3 + 4 * c))

  col_byte : (c r : ℕ) → byte_of r (col s c) ≡ get_or (at s 0 c ∷ at s 1 c ∷ at s 2 c ∷ at s 3 c ∷ []) r 0
  unfolding col
  col_byte c r = byte_of_lem (at s 0 c ∷ at s 1 c ∷ at s 2 c ∷ at s 3 c ∷ []) (col_four c) r

  -- unloading what was loaded
  unloaded : bytes_of (loaded s) ≡ state (λ r c. at s r c)
  unfolding bytes_of loaded
  unloaded =
      col_byte 0 0 ◂ col_byte 0 1 ◂ col_byte 0 2 ◂ col_byte 0 3 ◂ col_byte 1 0 ◂ col_byte 1 1 ◂ col_byte 1 2 ◂ col_byte 1 3 ◂
      col_byte 2 0 ◂ col_byte 2 1 ◂ col_byte 2 2 ◂ col_byte 2 3 ◂ col_byte 3 0 ◂ col_byte 3 1 ◂ col_byte 3 2 ◂ col_byte 3 3 ◂ refl

  module _ (k : List ℕ) (hk : Bytes k) where
    added_col : (i c : ℕ) → bit_xor (col s i) (col k c)
        ≡ word (bit_xor (at s 0 i) (at k 0 c)) (bit_xor (at s 1 i) (at k 1 c)) (bit_xor (at s 2 i) (at k 2 c)) (bit_xor (at s 3 i) (at k 3 c))
    unfolding col added
    added_col i c =
        four_xor (at s 0 i ∷ at s 1 i ∷ at s 2 i ∷ at s 3 i ∷ []) (at k 0 c ∷ at k 1 c ∷ at k 2 c ∷ at k 3 c ∷ [])
        (four (h (0 + 4 * i)) (h (1 + 4 * i)) (h (2 + 4 * i)) (h (3 + 4 * i)))
        (four (hk (0 + 4 * c)) (hk (1 + 4 * c)) (hk (2 + 4 * c)) (hk (3 + 4 * c)))

    keyed_is : keyed (loaded k) (loaded s) ≡ loaded (add_round_key s k)
    unfolding keyed loaded col add_round_key
    keyed_is = cols (added_col 0 0) (added_col 1 1) (added_col 2 2) (added_col 3 3)

-- ---- under what was laid out for a key

pub table_length : length te_table ≡ 256
unfolding te_table
table_length = from_length 256 0 te_word

module _ (key : List ℕ) (hk : Bytes key) where
  te_of : (x : ℕ) → x < 256 → get_or (prepared key) x 0 ≡ te_word x
  unfolding prepared
  te_of x h =
      let l : x < length te_table = rw table_length h in
      get_or-append te_table (key_words key) 0 x l ∙ te_at x h

  sub_of : (x : ℕ) → x < 256 → sub (prepared key) x ≡ sbox_of x
  unfolding sub te_word
  sub_of x h =
      let b = sbox_lt x h in
      ap (byte_of 1) (te_of x h) ∙ byte_of_lem _ (four (mul_lt 2 (sbox_of x) b) b b (mul_lt 3 (sbox_of x) b)) 1

  -- ---- the round keys

  key_at : (c : ℕ) → c < 4 → get_or (prepared key) (256 + c) 0 ≡ col key c
  unfolding prepared te_table key_words
  key_at c h = get_or-append-add te_table (key_words key) c 0 ∙ from_zero_at 4 (col key) c h

  first_key_lem : first_key (prepared key) ≡ loaded key
  unfolding first_key loaded
  first_key_lem = cols (key_at 0 (omega arith)) (key_at 1 (omega arith)) (key_at 2 (omega arith)) (key_at 3 (omega arith))

  module _ (v : ℕ) (k : List ℕ) (hv : v < 256) (hc : Bytes k) where
    sub_byte : (r : ℕ) → sub (prepared key) (byte_of r (col k 3)) ≡ sbox_of (get_or (at k 0 3 ∷ at k 1 3 ∷ at k 2 3 ∷ at k 3 3 ∷ []) r 0)
    sub_byte r = ap (sub (prepared key)) (col_byte k hc 3 r) ∙ sub_of _ ((col_four k hc 3).small r)

    first_is : first_col (prepared key) v (col k 0) (col k 3) ≡ word (key_byte v k 0 0) (key_byte v k 1 0) (key_byte v k 2 0) (key_byte v k 3 0)
    unfolding first_col col added
    first_is =
        ap (bit_xor (col k 0))
        (word_eq (ap (λ (x : ℕ). bit_xor x v) (sub_byte 1))
        (sub_byte 2 ∙ sym (xor_zero_r _)) (sub_byte 3 ∙ sym (xor_zero_r _)) (sub_byte 0 ∙ sym (xor_zero_r _)))
        ∙ four_xor (at k 0 0 ∷ at k 1 0 ∷ at k 2 0 ∷ at k 3 0 ∷ []) _ (col_four k hc 0)
        (four (xor_lt 8 (sbox_of (at k 1 3)) v (sbox_lt (at k 1 3) (hc 13)) hv) (xor_lt 8 (sbox_of (at k 2 3)) 0 (sbox_lt (at k 2 3) (hc 14)) (lit< tt))
        (xor_lt 8 (sbox_of (at k 3 3)) 0 (sbox_lt (at k 3 3) (hc 15)) (lit< tt)) (xor_lt 8 (sbox_of (at k 0 3)) 0 (sbox_lt (at k 0 3) (hc 12)) (lit< tt)))

    key_col : ℕ → ℕ
    key_col c = word (key_byte v k 0 c) (key_byte v k 1 c) (key_byte v k 2 c) (key_byte v k 3 c)

    more_is : (c : ℕ) → bit_xor (col k (suc c)) (key_col c) ≡ key_col (suc c)
    unfolding col added key_col
    more_is c =
        four_xor (at k 0 (suc c) ∷ at k 1 (suc c) ∷ at k 2 (suc c) ∷ at k 3 (suc c) ∷ [])
        (key_byte v k 0 c ∷ key_byte v k 1 c ∷ key_byte v k 2 c ∷ key_byte v k 3 c ∷ []) (col_four k hc (suc c))
        (four (key_byte_lt v k hv hc 0 c) (key_byte_lt v k hv hc 1 c) (key_byte_lt v k hv hc 2 c) (key_byte_lt v k hv hc 3 c))

    next_is : next_cols (prepared key) v (loaded k) ≡ loaded (next_key v k)
    unfolding next_cols loaded col next_key key_col
    next_is =
        let a = first_is in
        let b = ap (bit_xor (col k 1)) a ∙ more_is 0 in
        let c = ap (bit_xor (col k 2)) b ∙ more_is 1 in
        cols a b c (ap (bit_xor (col k 3)) c ∙ more_is 2)

  -- what round j works out is the j-th of the whole expansion
  pub round_keys : (j : ℕ) → key_cols (prepared key) j ≡ loaded (round_key key j)
  unfolding key_cols round_key
  round_keys zero = first_key_lem
  round_keys (suc j) =
      ap (next_cols (prepared key) (rcon j)) (round_keys j) ∙ next_is (rcon j) (round_key key j) (rcon_lt j) (round_key_lt key hk j)

  -- ---- a block

  -- of four bytes p q r u, and a round key's four
  bytes_column : (p q r u : ℕ) (k : List ℕ) (c : ℕ) → p < 256 → q < 256 → r < 256 → u < 256 → Bytes k
      → bit_xor (get_or (prepared key) p 0) (bit_xor (turned 1 (get_or (prepared key) q 0)) (bit_xor (turned 2 (get_or (prepared key) r 0)) (bit_xor (turned 3 (get_or (prepared key) u 0)) (col k c))))
      ≡ word (bit_xor (mixed (sbox_of p) (sbox_of q) (sbox_of r) (sbox_of u)) (at k 0 c)) (bit_xor (mixed (sbox_of q) (sbox_of r) (sbox_of u) (sbox_of p)) (at k 1 c))
      (bit_xor (mixed (sbox_of r) (sbox_of u) (sbox_of p) (sbox_of q)) (at k 2 c)) (bit_xor (mixed (sbox_of u) (sbox_of p) (sbox_of q) (sbox_of r)) (at k 3 c))
  unfolding te_word mixed col added
  bytes_column p q r u k c hp hq hr hu hc =
      let P = sbox_of p in
      let Q = sbox_of q in
      let R = sbox_of r in
      let U = sbox_of u in
      let bP = sbox_lt p hp in
      let bQ = sbox_lt q hq in
      let bR = sbox_lt r hr in
      let bU = sbox_lt u hu in
      ap₂ bit_xor (te_of p hp)
      (ap₂ bit_xor (ap (turned 1) (te_of q hq) ∙ turned_1 (mul 2 Q) Q Q (mul 3 Q) (mul_lt 2 Q bQ) bQ bQ (mul_lt 3 Q bQ))
      (ap₂ bit_xor (ap (turned 2) (te_of r hr) ∙ turned_2 (mul 2 R) R R (mul 3 R) (mul_lt 2 R bR) bR bR (mul_lt 3 R bR))
      (ap (λ (x : ℕ). bit_xor x (col k c)) (ap (turned 3) (te_of u hu) ∙ turned_3 (mul 2 U) U U (mul 3 U) (mul_lt 2 U bU) bU bU (mul_lt 3 U bU)))))
      ∙ five (mul 2 P ∷ P ∷ P ∷ mul 3 P ∷ []) (mul 3 Q ∷ mul 2 Q ∷ Q ∷ Q ∷ []) (R ∷ mul 3 R ∷ mul 2 R ∷ R ∷ []) (U ∷ U ∷ mul 3 U ∷ mul 2 U ∷ []) (at k 0 c ∷ at k 1 c ∷ at k 2 c ∷ at k 3 c ∷ [])
      (four (mul_lt 2 P bP) bP bP (mul_lt 3 P bP)) (four (mul_lt 3 Q bQ) (mul_lt 2 Q bQ) bQ bQ) (four bR (mul_lt 3 R bR) (mul_lt 2 R bR) bR) (four bU bU (mul_lt 3 U bU) (mul_lt 2 U bU)) (col_four k hc c)
      ∙ word_eq (r0 (mul 2 P) (mul 3 Q) R U (at k 0 c)) (r1 P (mul 2 Q) (mul 3 R) U (at k 1 c)) (r2 P Q (mul 2 R) (mul 3 U) (at k 2 c)) (r3 (mul 3 P) Q R (mul 2 U) (at k 3 c))

  module _ (s : List ℕ) (h : Bytes s) (k : List ℕ) (hc : Bytes k) where
    -- of four columns of s, and column c of k
    cols_column : (i j m n c : ℕ) → column (prepared key) (col s i) (col s j) (col s m) (col s n) (col k c)
        ≡ word (bit_xor (mixed (sbox_of (at s 0 i)) (sbox_of (at s 1 j)) (sbox_of (at s 2 m)) (sbox_of (at s 3 n))) (at k 0 c))
        (bit_xor (mixed (sbox_of (at s 1 j)) (sbox_of (at s 2 m)) (sbox_of (at s 3 n)) (sbox_of (at s 0 i))) (at k 1 c))
        (bit_xor (mixed (sbox_of (at s 2 m)) (sbox_of (at s 3 n)) (sbox_of (at s 0 i)) (sbox_of (at s 1 j))) (at k 2 c))
        (bit_xor (mixed (sbox_of (at s 3 n)) (sbox_of (at s 0 i)) (sbox_of (at s 1 j)) (sbox_of (at s 2 m))) (at k 3 c))
    unfolding column
    cols_column i j m n c =
        ap₂ bit_xor (ap (λ (x : ℕ). get_or (prepared key) x 0) (col_byte s h i 0))
        (ap₂ bit_xor (ap (λ (x : ℕ). turned 1 (get_or (prepared key) x 0)) (col_byte s h j 1))
        (ap₂ bit_xor (ap (λ (x : ℕ). turned 2 (get_or (prepared key) x 0)) (col_byte s h m 2))
        (ap (λ (x : ℕ). bit_xor (turned 3 (get_or (prepared key) x 0)) (col k c)) (col_byte s h n 3))))
        ∙ bytes_column (at s 0 i) (at s 1 j) (at s 2 m) (at s 3 n) k c (h _) (h _) (h _) (h _) hc

    last_col : (i j m n c : ℕ) → last_column (prepared key) (col s i) (col s j) (col s m) (col s n) (col k c)
        ≡ word (bit_xor (sbox_of (at s 0 i)) (at k 0 c)) (bit_xor (sbox_of (at s 1 j)) (at k 1 c)) (bit_xor (sbox_of (at s 2 m)) (at k 2 c)) (bit_xor (sbox_of (at s 3 n)) (at k 3 c))
    unfolding last_column col added
    last_col i j m n c =
        ap (λ (x : ℕ). bit_xor x (col k c))
        (word_eq (ap (sub (prepared key)) (col_byte s h i 0) ∙ sub_of (at s 0 i) (h _)) (ap (sub (prepared key)) (col_byte s h j 1) ∙ sub_of (at s 1 j) (h _))
        (ap (sub (prepared key)) (col_byte s h m 2) ∙ sub_of (at s 2 m) (h _)) (ap (sub (prepared key)) (col_byte s h n 3) ∙ sub_of (at s 3 n) (h _)))
        ∙ four_xor (sbox_of (at s 0 i) ∷ sbox_of (at s 1 j) ∷ sbox_of (at s 2 m) ∷ sbox_of (at s 3 n) ∷ []) (at k 0 c ∷ at k 1 c ∷ at k 2 c ∷ at k 3 c ∷ [])
        (four (sbox_lt _ (h _)) (sbox_lt _ (h _)) (sbox_lt _ (h _)) (sbox_lt _ (h _))) (col_four k hc c)

    step_is : stepped (prepared key) (loaded k) (loaded s) ≡ loaded (round k s)
    unfolding stepped loaded col round add_round_key mix_columns shift_rows sub_bytes
    step_is = cols (cols_column 0 1 2 3 0) (cols_column 1 2 3 0 1) (cols_column 2 3 0 1 2) (cols_column 3 0 1 2 3)

    last_is : last_stepped (prepared key) (loaded k) (loaded s) ≡ loaded (last_round k s)
    unfolding last_stepped loaded col last_round add_round_key shift_rows sub_bytes
    last_is = cols (last_col 0 1 2 3 0) (last_col 1 2 3 0 1) (last_col 2 3 0 1 2) (last_col 3 0 1 2 3)

  steps_are : (s : List ℕ) → Bytes s → (i : ℕ) → steps (prepared key) i (loaded s) ≡ loaded (rounds key i s)
  unfolding rounds steps
  steps_are s h zero = refl
  steps_are s h (suc i) =
      ap₂ (stepped (prepared key)) (round_keys (suc i)) (steps_are s h i)
      ∙ step_is (rounds key i s) (rounds_lt key hk s h i) (round_key key (suc i)) (round_key_lt key hk (suc i))

  spread : (s k : List ℕ) → state (λ r c. at (last_round k s) r c) ≡ last_round k s
  unfolding last_round add_round_key
  spread s k = refl

  pub columns_are_bytes : (s : List ℕ) → Bytes s → enciphered (prepared key) s ≡ aes key s
  unfolding enciphered aes round_key
  columns_are_bytes s h =
      let z = add_round_key s key in
      let hz = add_lt s h key hk in
      let y = rounds key 9 z in
      let hy = rounds_lt key hk z hz 9 in
      let k = round_key key 10 in
      let hl = round_key_lt key hk 10 in
      ap (λ (x : Cols). bytes_of (last_stepped (prepared key) (key_cols (prepared key) 10) (steps (prepared key) 9 x)))
      (ap (λ (x : Cols). keyed x (loaded s)) (round_keys 0) ∙ keyed_is s h key hk)
      ∙ ap₂ (λ (x y : Cols). bytes_of (last_stepped (prepared key) x y)) (round_keys 10) (steps_are z hz 9)
      ∙ ap bytes_of (last_is y hy k hl)
      ∙ unloaded (last_round k y) (last_lt k y hl hy)
      ∙ spread y k
