-- Every frame is read, or refused with the number that `mesh_number` says. Assumes nothing.
use Prim.Native.Nat.{ℕ, zero, suc, ◌+◌, ◌-◌, ◌/◌, ◌%◌, ◌≤◌, ◌<◌}
use native.Mathlib.Omega.{arith}
use mathlib.Core.Bool.{Bool, true, false}
use mathlib.Core.Path.{◌≡◌, refl, ap, ◌∙◌}
use mathlib.Core.List.{List}
use lib.Dec.{ltb, eqb}
use lib.ListN.{length, get_or, drop, length-drop}
use lib.Seq.{length-take-le}
use borrow.Author.Tests.{lt-ltb, le-ltb, ne_eqb, eqb-true, eqb-false, ltb-true, ltb-false}
use Rattle.base.specs.Pick.{pick}
use Rattle.base.specs.Numbers.{body_short}
use Rattle.fields.specs.Header.{header_of, code_of}
use Rattle.fields.specs.declared.header.MHDR.{MHDR}
use Rattle.fields.specs.declared.header.PayloadType.{PayloadType}
use Rattle.fields.specs.declared.header.PayloadType.TheVariants.{Uplink, Downlink, Event, Command}
use Rattle.fields.proofs.Laws.Header.{marked, not_marked}
use Rattle.links.specs.Read.{uplink_at, downlink_at}
use Rattle.events.specs.Read.{stamped_at, event_at, command_at}
use Rattle.packets.specs.Read.{body_in, payload_at, with_payload, with_header, mesh_of, mesh_says}
use Rattle.round_trips.specs.Which.{least_frame, mesh_number}
use Rattle.base.specs.Answers.{number_in}

pub body_length : (s : List ℕ) → 5 ≤ length s → length (body_in s) ≡ length s - 5
body_length s h =
    let d : length (drop 1 s) ≡ length s - 1 = length-drop 1 s in
    length-take-le (length s - 4 - 1) (drop 1 s) (omega arith) ∙ omega arith

-- a body of n bytes at the reader of its type: 4 below the least length, read from there on
module _ (s : List ℕ) (h : MHDR) (b : List ℕ) (fits : length b ≤ 8187) where
  short : (t : PayloadType) → length b + 5 < least_frame (code_of t) → number_in (mesh_says (with_payload s h (payload_at t b))) ≡ body_short
  unfolding payload_at uplink_at downlink_at stamped_at event_at command_at
  short Uplink l = simp (le-ltb 8187 (length b) fits, lt-ltb (length b) 9 (omega arith))
  short Downlink l = simp (le-ltb 8187 (length b) fits, lt-ltb (length b) 10 (omega arith))
  short Event l = simp (le-ltb 8187 (length b) fits, lt-ltb (length b) 8 (omega arith))
  short Command l = simp (le-ltb 8187 (length b) fits, lt-ltb (length b) 8 (omega arith))

  long : (t : PayloadType) → least_frame (code_of t) ≤ length b + 5 → number_in (mesh_says (with_payload s h (payload_at t b))) ≡ 0
  unfolding payload_at uplink_at downlink_at stamped_at event_at command_at
  long Uplink l = simp (le-ltb 8187 (length b) fits, le-ltb (length b) 9 (omega arith))
  long Downlink l = simp (le-ltb 8187 (length b) fits, le-ltb (length b) 10 (omega arith))
  long Event l = simp (le-ltb 8187 (length b) fits, le-ltb (length b) 8 (omega arith))
  long Command l = simp (le-ltb 8187 (length b) fits, le-ltb (length b) 8 (omega arith))

module _ (s : List ℕ) where
  abbrev first : ℕ
  first = get_or s 0 0

  bodied : 5 ≤ length s → length s ≤ 8192 → first / 32 ≡ 7 → (t : Bool) → ltb (length s) (least_frame (first / 8 % 4)) ≡ t
      → number_in (mesh_says (with_header s (header_of first))) ≡ pick t body_short 0
  bodied l m e true p =
      let k = marked first e in
      let n = body_length s l in
      let q : length s < least_frame (code_of k.kind) = rw k.code (ltb-true _ _ p) in
      ap (λ x. number_in (mesh_says (with_header s x))) k.reads ∙ short s _ (body_in s) (omega arith) k.kind (omega arith)
  bodied l m e false p =
      let k = marked first e in
      let n = body_length s l in
      let q : least_frame (code_of k.kind) ≤ length s = rw k.code (ltb-false _ _ p) in
      ap (λ x. number_in (mesh_says (with_header s x))) k.reads ∙ long s _ (body_in s) (omega arith) k.kind (omega arith)

  headed : 5 ≤ length s → length s ≤ 8192 → (t : Bool) → eqb (first / 32) 7 ≡ t
      → number_in (mesh_says (with_header s (header_of first))) ≡ pick t (pick (ltb (length s) (least_frame (first / 8 % 4))) body_short 0) 3
  headed l m true e = bodied l m (eqb-true _ _ e) (ltb (length s) (least_frame (first / 8 % 4))) refl
  headed l m false e = ap (λ x. number_in (mesh_says (with_header s x))) (not_marked first (eqb-false _ _ e))

  third : 1 ≤ length s → length s ≤ 8192 → (t : Bool) → ltb (length s) 5 ≡ t → number_in (mesh_says (mesh_of s)) ≡ mesh_number s
  unfolding mesh_of mesh_number
  third l m true e = simp (ne_eqb (length s) 0 (λ z. omega arith), le-ltb 8192 (length s) m, e)
  third l m false e =
      simp (ne_eqb (length s) 0 (λ z. omega arith), le-ltb 8192 (length s) m, e) (headed (ltb-false _ _ e) m (eqb (first / 32) 7) refl)

  second : 1 ≤ length s → (t : Bool) → ltb 8192 (length s) ≡ t → number_in (mesh_says (mesh_of s)) ≡ mesh_number s
  unfolding mesh_of mesh_number
  second l true e = simp (ne_eqb (length s) 0 (λ z. omega arith), e)
  second l false e = third l (ltb-false _ _ e) (ltb (length s) 5) refl

  by_length : (n : ℕ) → length s ≡ n → number_in (mesh_says (mesh_of s)) ≡ mesh_number s
  unfolding mesh_of mesh_number
  by_length zero e = simp e
  by_length (suc n) e = second (omega arith) (ltb 8192 (length s)) refl

  pub which : number_in (mesh_says (mesh_of s)) ≡ mesh_number s
  which = by_length (length s) refl
