-- One item alone: what its writers' proofs share, and that reading and writing one item undo each other. Assumes nothing.
use Prim.Native.Nat.{ℕ, suc, ◌+◌, ◌-◌, ◌%◌, ◌<◌, ◌≤◌}
use native.Mathlib.Omega.{arith}
use mathlib.Core.Bool.{Bool, true, false, not}
use mathlib.Core.Path.{◌≡◌, refl, sym, ap, ◌∙◌}
use mathlib.Core.List.{List, [], ◌∷◌, append-nil}
use lib.Dec.{ltb, eqb}
use lib.ListN.{length, get_or, take, drop, length-drop}
use lib.Seq.{length-take-le, take-length}
use borrow.Author.Tests.{lt-ltb, le-ltb, lt-leb, eq-eqb, eqb-true, ltb-false}
use Rattle.base.specs.Pick.{pick}
use Rattle.base.specs.Numbers.{frame_long, type_large, item_long, heartbeat_length, payload_most, item_most}
use Rattle.base.specs.Lists.{Bytes, imap, or_else, first_of, joined}
use Rattle.base.specs.Answers.{Writing, bytes, refused, answer_of, out_of}
use Rattle.base.specs.declared.Written.{Written}
use Rattle.base.specs.declared.Written.TheVariants.{Bytes as Wrote, Refused}
use Rattle.base.proofs.Lists.{imap_length}
use Rattle.base.proofs.First.{passed}
use Rattle.base.proofs.Answers.{room, no_room, is_refused, not_refused, unless_bytes}
use Rattle.wire.specs.Lay.{put}
use Rattle.wire.specs.Part.{reach_of, reach_number, part_of}
use Rattle.wire.specs.Run.{run_at, run_refusal, run_bytes}
use Rattle.wire.specs.declared.run.Run.{Run}
use Rattle.wire.proofs.Laws.Lay.{put_front}
use Rattle.wire.proofs.Laws.Part.{inside, part_length}
use Rattle.items.specs.Items.{is_beat, bad_beat, kind_of, kind_code, item_at}
use Rattle.items.specs.declared.item.Item.{Item}
use Rattle.items.specs.declared.item.ItemKind.{ItemKind}
use Rattle.items.specs.declared.item.ItemKind.TheVariants.{Heartbeat, Proprietary}
use Rattle.items.specs.declared.item.ItemRead.TheVariants.{Kept}
use Rattle.items.proofs.Laws.{heads, turn, kept_whole}
use Rattle.kept_items.specs.Kept.{fixed, item_bytes}
use Rattle.kept_items.proofs.Laws.{fixed_plain, item_length}
use Rattle.composed_items.specs.Composed.{Lists, lists, tag_of, is_path, bad_kind, outside_of, bad_path, long_of, uneven_of, kinds_refusal, verdict_of, value_of, item_wire, composed_bytes, composed_wire}
use Rattle.composed_items.specs.declared.Composed.{Composed}
use Rattle.composed_items.specs.One.{strange_kind, one_refusal, one_wire, sealed_wire, encoded_in, encoded_by, encoded_of}

-- ---- what a writer answers and leaves

abbrev Outcome : Written → List ℕ → Writing → List ℕ → Type 0
Outcome r x f o = (r ≡ answer_of f o) × (x ≡ out_of f o)

pub same_as : (f g : Writing) (r : Written) (x o : List ℕ) → f ≡ g → Outcome r x g o → Outcome r x f o
same_as f g r x o e h = rw e h

refuses : (f : Writing) (k : ℕ) (o : List ℕ) → f ≡ refused k → Outcome (Refused k) o f o
unfolding answer_of out_of
refuses f k o e = rw e (refl, refl)

-- ---- the refusals of one value

module _ (ev : Bool) (kind tag n : ℕ) where
  pub one_strange : strange_kind ev kind ≡ true → type_large ≡ one_refusal ev kind tag n
  unfolding one_refusal
  one_strange e = rw e refl

  pub one_long : strange_kind ev kind ≡ false → item_most < n → item_long ≡ one_refusal ev kind tag n
  unfolding one_refusal
  one_long e h = rw (e, lt-ltb item_most n h) refl

  pub one_last : strange_kind ev kind ≡ false → n ≤ item_most → (t k : ℕ) → t ≡ tag_of kind tag → k ≡ pick (bad_beat ev t n) heartbeat_length 0 → k ≡ one_refusal ev kind tag n
  unfolding one_refusal
  one_last e h t k q p = rw (e, le-ltb item_most n h, ← q) p

-- ---- one value written

module _ (ev : Bool) (kind tag : ℕ) (v o : List ℕ) (k : ℕ) (e : k ≡ one_refusal ev kind tag (length v)) where
  pub one_refused : (k ≡ 0 → ⊥) → Outcome (Refused k) o (one_wire ev kind tag v) o
  unfolding one_wire
  one_refused h = refuses (one_wire ev kind tag v) k o (sym (is_refused k (one_refusal ev kind tag (length v)) _ e h))

  one_good : k ≡ 0 → one_wire ev kind tag v ≡ bytes (item_bytes (is_beat ev (tag_of kind tag)) (tag_of kind tag) v)
  unfolding one_wire
  one_good h = sym (not_refused (one_refusal ev kind tag (length v)) _ (sym e ∙ h))

  pub one_short : k ≡ 0 → length o < 2 + length v → Outcome (Refused 21) o (one_wire ev kind tag v) o
  one_short h l =
      let w = item_bytes (is_beat ev (tag_of kind tag)) (tag_of kind tag) v in
      let n = item_length (is_beat ev (tag_of kind tag)) (tag_of kind tag) v in
      let r = no_room w o (omega arith) in
      same_as (one_wire ev kind tag v) (bytes w) _ _ o (one_good h) (sym r.0, sym r.1)

  pub one_laid : k ≡ 0 → 2 + length v ≤ length o → (b : Bool) (t : ℕ) (x : List ℕ) → t ≡ tag_of kind tag → b ≡ is_beat ev t → x ≡ put o 0 (item_bytes b t v)
      → Outcome (Wrote (2 + length v)) x (one_wire ev kind tag v) o
  one_laid h l b t x et eb ex =
      let w = item_bytes (is_beat ev (tag_of kind tag)) (tag_of kind tag) v in
      let n = item_length (is_beat ev (tag_of kind tag)) (tag_of kind tag) v in
      let g : length w ≤ length o = omega arith in
      same_as (one_wire ev kind tag v) (bytes w) _ _ o (one_good h)
      (ap Wrote (sym n) ∙ sym (room w o g).0, ex ∙ rw (eb, et) (put_front o w g))

-- ---- an item whose value is a run of a lent slice

module _ (r : Run) (s : List ℕ) (k : ℕ) (e : k ≡ run_refusal (length s) r) where
  pub sealed_outside : (o : List ℕ) → (k ≡ 0 → ⊥) → Outcome (Refused k) o (sealed_wire s r) o
  unfolding sealed_wire
  sealed_outside o h = refuses (sealed_wire s r) k o (sym (is_refused k (run_refusal (length s) r) _ e h))

  sealed_inside : k ≡ 0 → sealed_wire s r ≡ pick (ltb payload_most (length (run_bytes s r))) (refused frame_long) (bytes (run_bytes s r))
  unfolding sealed_wire
  sealed_inside h = sym (not_refused (run_refusal (length s) r) _ (sym e ∙ h))

  pub sealed_long : (o : List ℕ) → k ≡ 0 → (b : List ℕ) → b ≡ run_bytes s r → payload_most < length b → Outcome (Refused 5) o (sealed_wire s r) o
  sealed_long o h b q l = refuses (sealed_wire s r) 5 o (sealed_inside h ∙ rw (← q, lt-ltb payload_most (length b) l) refl)

  pub sealed_emitted : k ≡ 0 → (b : List ℕ) → b ≡ run_bytes s r → length b ≤ payload_most → sealed_wire s r ≡ bytes b
  sealed_emitted h b q l = sealed_inside h ∙ rw (← q, le-ltb payload_most (length b) l) refl

module _ (ev : Bool) (kind tag : ℕ) (r : Run) (s : List ℕ) where
  pub in_strange : (o : List ℕ) → strange_kind ev kind ≡ true → Outcome (Refused 29) o (encoded_in ev kind tag r s) o
  unfolding encoded_in
  in_strange o e = refuses (encoded_in ev kind tag r s) 29 o (rw e refl)

  module _ (e : strange_kind ev kind ≡ false) (k : ℕ) (q : k ≡ run_refusal (length s) r) where
    pub in_outside : (o : List ℕ) → (k ≡ 0 → ⊥) → Outcome (Refused k) o (encoded_in ev kind tag r s) o
    unfolding encoded_in
    in_outside o h = refuses (encoded_in ev kind tag r s) k o (rw e (sym (is_refused k (run_refusal (length s) r) _ q h)))

    pub in_written : k ≡ 0 → (b : List ℕ) → b ≡ run_bytes s r → encoded_in ev kind tag r s ≡ one_wire ev kind tag b
    unfolding encoded_in
    in_written h b p = rw (e, p) (sym (not_refused (run_refusal (length s) r) _ (sym q ∙ h)))

pub by_kind : (ev : Bool) (i : Item) (s : List ℕ) (k : ItemKind) (w : Written) (x o : List ℕ) → i.kind ≡ k → Outcome w x (encoded_by ev k i.tag i.value s) o
    → Outcome w x (encoded_of ev i s) o
unfolding encoded_of
by_kind ev i s k w x o e h = rw e h

-- ---- an item that was read

module _ (ev : Bool) (t : ℕ) (r : Run) (s : List ℕ) where
  -- its kind is one of a value in bytes, and its tag is written as it was read
  by_kinds : (e z : Bool) → ev ≡ e → eqb t 0 ≡ z → run_refusal (length s) r ≡ 0 → one_refusal e (kind_code (pick (pick e z false) Heartbeat Proprietary)) t (length (run_bytes s r)) ≡ 0
      → encoded_by e (pick (pick e z false) Heartbeat Proprietary) t r s ≡ bytes (item_bytes (is_beat e t) t (run_bytes s r))
  unfolding encoded_in one_wire strange_kind tag_of
  by_kinds true true p q h k = let z : t ≡ 0 = eqb-true t 0 q in rw (h, k, z) refl
  by_kinds true false p q h k = rw (h, k) refl
  by_kinds false z p q h k = rw (h, k) refl

  good_kind : (e z : Bool) → ev ≡ e → eqb t 0 ≡ z → (n : ℕ) → n ≤ 255 → bad_beat e t n ≡ false → one_refusal e (kind_code (pick (pick e z false) Heartbeat Proprietary)) t n ≡ 0
  unfolding one_refusal strange_kind tag_of
  good_kind true true p q n l b = let z : 0 ≡ t = sym (eqb-true t 0 q) in rw (le-ltb 255 n l, z, b) refl
  good_kind true false p q n l b = rw (le-ltb 255 n l, b) refl
  good_kind false z p q n l b = rw (le-ltb 255 n l, b) refl

mod_small : (n : ℕ) → n < 256 → n % 256 ≡ n
mod_small n h = omega arith

part_all : (s : List ℕ) (start len : ℕ) → reach_number (reach_of (length s) start len) ≡ 0 → length (part_of s start len) ≡ len
part_all s start len h = part_length s start len ∙ simp (eq-eqb (reach_number (reach_of (length s) start len)) 0 h)

module _ (ev : Bool) (s : List ℕ) (small : Bytes s) (at : ℕ) (i : Item) (nx : ℕ) (e : item_at ev s at ≡ Kept i nx) where
  abbrev n : ℕ
  n = get_or s (at + 1) 0

  abbrev r : Run
  r = record { start = at + 2; len = n }

  lies : run_refusal (length s) r ≡ 0
  unfolding run_refusal
  lies = let u = turn ev s at _ e in ap reach_number (inside (length s) (at + 2) n (omega arith))

  long : length (run_bytes s r) ≡ n
  unfolding run_refusal
  long = let h = lies in part_all s (at + 2) n h

  -- tag, length and value as they were read, but for the odd bits of a heartbeat
  pub read_encoded : encoded_of ev i s ≡ bytes (item_bytes (is_beat ev i.tag) i.tag (run_bytes s i.value))
  unfolding encoded_of kind_of
  read_encoded =
      let u = turn ev s at _ e in
      let b = small (at + 1) in
      let k = kept_whole ev s at i nx e in
      rw u.0 (by_kinds ev (get_or s at 0) r s ev (eqb (get_or s at 0) 0) refl refl lies
      (rw long (good_kind ev (get_or s at 0) r s ev (eqb (get_or s at 0) 0) refl refl n (omega arith) k)))

  -- which of any other item is its own bytes
  pub read_encoded_plain : is_beat ev i.tag ≡ false → encoded_of ev i s ≡ bytes (take (nx - at) (drop at s))
  unfolding item_bytes part_of
  read_encoded_plain h =
      let u = turn ev s at _ e in
      let b = small (at + 1) in
      let k : nx - at ≡ suc (suc n) = omega arith in
      let m : n % 256 ≡ n = mod_small n (omega arith) in
      let l : length (take n (drop (at + 2) s)) ≡ n = length-take-le n (drop (at + 2) s) (simp length-drop (omega arith)) in
      let w : take (suc (suc n)) (drop at s) ≡ get_or s at 0 ∷ n ∷ take n (drop (at + 2) s) = ap (take (suc (suc n))) (heads s at (omega arith)) in
      read_encoded ∙ rw (h, u.0, k, w, fixed_plain (part_of s (at + 2) n))
      (simp (le-ltb (length s) (at + 2) (omega arith), le-ltb (length s - (at + 2)) n (omega arith), l, m))

-- ---- an item that was written

-- at the front of its own bytes the reader finds it again
pub bytes_read : (ev : Bool) (t : ℕ) (v : List ℕ) → length v ≤ 255 → bad_beat ev t (length v) ≡ false
    → item_at ev (item_bytes (is_beat ev t) t v) 0 ≡ Kept (record { kind = kind_of ev t; tag = t; value = run_at 2 (length v) }) (2 + length v)
unfolding item_at item_bytes
bytes_read ev t v h b =
    let l = imap_length (fixed (is_beat ev t)) 0 v in
    let m : length (imap (fixed (is_beat ev t)) 0 v) % 256 ≡ length v = ap (λ (k : ℕ). k % 256) l ∙ mod_small (length v) (omega arith) in
    rw (m, l) (simp (
      lt-leb (suc (suc (length v))) 0 (omega arith),
      le-ltb (suc (suc (length v)) - 0) 2 (omega arith),
      le-ltb (suc (suc (length v)) - 0 - 2) (length v) (omega arith),
      b,
    ))

module _ (ev : Bool) (kind tag : ℕ) (v w : List ℕ) (e : one_wire ev kind tag v ≡ bytes w) where
  pub one_read : item_at ev w 0 ≡ Kept (record { kind = kind_of ev (tag_of kind tag); tag = tag_of kind tag; value = run_at 2 (length v) }) (length w)
  unfolding one_wire one_refusal
  one_read =
      let u = unless_bytes _ _ w e in
      let a = passed (strange_kind ev kind) 28 _ u.0 in
      let c = passed (ltb 255 (length v)) 18 _ a.1 in
      let d = passed (bad_beat ev (tag_of kind tag) (length v)) 19 0 c.1 in
      let x : bytes w ≡ bytes (item_bytes (is_beat ev (tag_of kind tag)) (tag_of kind tag) v) = sym u.1 in
      let y : w ≡ item_bytes (is_beat ev (tag_of kind tag)) (tag_of kind tag) v = cc in
      let l = item_length (is_beat ev (tag_of kind tag)) (tag_of kind tag) v in
      rw (y, l) (bytes_read ev (tag_of kind tag) v (ltb-false 255 (length v) c.0) d.0)

-- and so an item that was read is read again, from its own bytes alone
pub read_again : (ev : Bool) (s : List ℕ) → Bytes s → (at : ℕ) (i : Item) (nx : ℕ) → item_at ev s at ≡ Kept i nx → (w : List ℕ) → encoded_of ev i s ≡ bytes w
    → item_at ev w 0 ≡ Kept (record { kind = i.kind; tag = i.tag; value = run_at 2 i.value.len }) (length w)
read_again ev s small at i nx e w f =
    let u = turn ev s at _ e in
    let b = small (at + 1) in
    let g = long ev s small at i nx e in
    let x : bytes w ≡ bytes (item_bytes (is_beat ev i.tag) i.tag (run_bytes s i.value)) = sym f ∙ read_encoded ev s small at i nx e in
    let y : w ≡ item_bytes (is_beat ev i.tag) i.tag (run_bytes s i.value) = cc in
    let l = item_length (is_beat ev (get_or s at 0)) (get_or s at 0) (run_bytes s (r ev s small at i nx e)) in
    let k : bad_beat ev (get_or s at 0) (length (run_bytes s (r ev s small at i nx e))) ≡ false = rw g (kept_whole ev s at i nx e) in
    let h = bytes_read ev (get_or s at 0) (run_bytes s (r ev s small at i nx e)) (omega arith) k in
    rw (y, u.0, l) (h ∙ rw g refl)

-- ---- one item alone is as a list of one has it

in_order : (p e b x y : Bool)
    → or_else (or_else (pick p 0 (pick e (pick b 0 29) 29)) 0) (or_else (or_else (pick x 19 0) 0) (or_else (pick y 20 0) 0))
    ≡ pick (pick p false (pick e (not b) true)) 29 (pick x 19 (pick y 20 0))
in_order true e b true y = refl
in_order true e b false true = refl
in_order true e b false false = refl
in_order false true true true y = refl
in_order false true true false true = refl
in_order false true true false false = refl
in_order false true false x y = refl
in_order false false b x y = refl

module _ (ev : Bool) (kind tag : ℕ) (v : List ℕ) (h : eqb kind 3 ≡ false) where
  abbrev one : Lists
  one = lists ((kind ∷ tag ∷ []) ∷ []) ((0 ∷ length v ∷ []) ∷ []) [] [] [] v

  abbrev it : Composed
  it = record { kind = kind; tag = tag_of kind tag; place = 0; len = length v }

  no_path_lem : is_path ev it ≡ false
  no_path_lem = rw h (go ev)
    where
      go : (e : Bool) → pick e false false ≡ false
      go true = refl
      go false = refl

  all_of : part_of v 0 (length v) ≡ v
  unfolding part_of
  all_of = simp (le-ltb (length v) 0 (omega arith), le-ltb (length v - 0) (length v) (omega arith)) (take-length v)

  lies_inside : outside_of ev one it ≡ 0
  unfolding outside_of run_refusal
  lies_inside = rw no_path_lem (ap reach_number (inside (length v) 0 (length v) (omega arith)))

  same_refusal : verdict_of ev one 1 ≡ one_refusal ev kind tag (length v)
  unfolding verdict_of kinds_refusal first_of bad_kind bad_path long_of uneven_of one_refusal strange_kind
  same_refusal =
      rw (lies_inside, no_path_lem, h)
      (in_order (eqb kind 2) ev (eqb kind 1) (ltb 255 (length v)) (bad_beat ev (tag_of kind tag) (length v)))

  same_bytes : composed_bytes ev one 1 ≡ item_bytes (is_beat ev (tag_of kind tag)) (tag_of kind tag) v
  unfolding composed_bytes joined item_wire value_of item_bytes
  same_bytes = rw (no_path_lem, all_of) (append-nil _)

  pub one_composed : composed_wire ev one 1 ≡ one_wire ev kind tag v
  unfolding composed_wire one_wire
  one_composed = rw (same_refusal, same_bytes) refl
