-- Sealing and opening undo each other: what is sealed, sealed again, is the clear bytes, still marked sealed; and opened it has the items
-- of the clear bytes. For every length, key and kind, and whatever else is lent. Assumes nothing.
use Prim.Native.Nat.{ℕ}
use native.Mathlib.Omega.{arith}
use mathlib.Core.Bool.{Bool, true, false}
use mathlib.Core.Path.{◌≡◌, refl, sym, ap, ◌∙◌}
use mathlib.Core.List.{List, [], ◌∷◌, ◌++◌}
use lib.Dec.{eqb}
use lib.ListN.{length, length-append}
use borrow.Author.Tests.{eqb-true, le-ltb}
use Rattle.base.specs.Pick.{pick}
use Rattle.base.specs.Answers.{Writing, bytes}
use Rattle.wire.specs.Part.{reach_number}
use Rattle.wire.specs.Run.{run_refusal, run_bytes}
use Rattle.wire.specs.declared.run.Run.{Run}
use Rattle.base.proofs.Answers.{not_refused, unless_bytes}
use Rattle.wire.proofs.Laws.Part.{inside}
use Rattle.key_stream.specs.Stream.{streamed, sealed_of}
use Rattle.key_stream.proofs.Laws.{seal_twice}
use Rattle.items.specs.Items.{opening_of}
use Rattle.items.proofs.Laws.{no_pieces}
use Rattle.composed_items.specs.Composed.{Lists}
use Rattle.contents.specs.Content.{Lent, framed, content_of, content_refusal, content_bytes}
use Rattle.contents.specs.declared.content.Content.{Content}
use Rattle.contents.specs.declared.content.Content.TheVariants.{Empty, Sealed}
use Rattle.events.specs.declared.stamped.EventPayload.{EventPayload}
use Rattle.events.specs.declared.stamped.CommandPayload.{CommandPayload}
use Rattle.sealing.specs.Open.{nothing_in, opened_by, decrypt_of}
use Rattle.sealing.specs.Seal.{content_seal, event_seal, command_seal}
use Rattle.sealing.proofs.Steps.{part_front}

-- a run at the front of what is lent lies inside, and is what stands there
module _ (w rest : List ℕ) where
  abbrev pub front : Run
  front = record { start = 0; len = length w }

  pub front_inside : run_refusal (length (w ++ rest)) front ≡ 0
  unfolding run_refusal
  front_inside = let l = length-append w rest in ap reach_number (inside (length (w ++ rest)) 0 (length w) (omega arith))

  pub front_bytes : run_bytes (w ++ rest) front ≡ w
  front_bytes = part_front w rest

-- no bytes, sealed and opened, are nothing
nothing_opened : (ev : Bool) (key : List ℕ) (relay time : ℕ) (k : List ℕ) → opened_by ev (sealed_of key ev relay time []) k ≡ nothing_in
unfolding opened_by sealed_of streamed opening_of
nothing_opened ev key relay time k = simp (le-ltb (length k) 0 (omega arith), no_pieces ev)

none : (w : List ℕ) → length w ≡ 0 → w ≡ []
none [] e = refl
none (x ∷ w) e = absurd (omega arith)

module _ (ev : Bool) (key : List ℕ) (relay time : ℕ) (l : Lent) (b : Content) (w : List ℕ) (sealed : content_seal key ev relay time l b ≡ bytes w) where
  unsealed : sealed_of key ev relay time w ≡ bytes (content_bytes ev l b)
  unfolding content_seal
  unsealed =
      seal_twice key ev relay time (content_bytes ev l b) w
      (unless_bytes (content_refusal ev l b) (sealed_of key ev relay time (content_bytes ev l b)) w sealed).1

  -- as it lies at the front of the output, which is the frame from then on
  module _ (rest : List ℕ) where
    again_by : (x : Lists) (t : Bool) → eqb (length w) 0 ≡ t → content_seal key ev relay time (framed (w ++ rest) x) (pick t Empty (Sealed (front w rest))) ≡ bytes (content_bytes ev l b)
    unfolding content_seal content_refusal content_bytes
    again_by x true e = ap (sealed_of key ev relay time) (sym (none w (eqb-true _ _ e))) ∙ unsealed
    again_by x false e =
        sym (not_refused (run_refusal (length (w ++ rest)) (front w rest)) (sealed_of key ev relay time (run_bytes (w ++ rest) (front w rest))) (front_inside w rest))
        ∙ ap (sealed_of key ev relay time) (front_bytes w rest) ∙ unsealed

    opened_by_lem : (k : List ℕ) (t : Bool) → eqb (length w) 0 ≡ t
        → decrypt_of key ev relay time (pick t Empty (Sealed (front w rest))) (w ++ rest) k ≡ opened_by ev (bytes (content_bytes ev l b)) k
    unfolding decrypt_of
    opened_by_lem k true e = sym (ap (λ (f : Writing). opened_by ev f k) (sym unsealed ∙ ap (sealed_of key ev relay time) (none w (eqb-true _ _ e))) ∙ nothing_opened ev key relay time k)
    opened_by_lem k false e =
        ap (λ (f : Writing). opened_by ev f k)
        (sym (not_refused (run_refusal (length (w ++ rest)) (front w rest)) (sealed_of key ev relay time (run_bytes (w ++ rest) (front w rest))) (front_inside w rest))
        ∙ ap (sealed_of key ev relay time) (front_bytes w rest) ∙ unsealed)

-- ---- events and commands

module _ (key : List ℕ) (l : Lent) (w rest : List ℕ) (x : Lists) where
  -- sealed again it is the clear bytes, and `content_of` marks it sealed
  pub event_again : (u : EventPayload) → event_seal key l u ≡ bytes w
      → event_seal key (framed (w ++ rest) x) (record { timestamp = u.timestamp; relay_id = u.relay_id; events = content_of 0 (length w) }) ≡ bytes (content_bytes true l u.events)
  unfolding event_seal
  event_again u e = again_by true key u.relay_id u.timestamp l u.events w e rest x (eqb (length w) 0) refl

  pub command_again : (u : CommandPayload) → command_seal key l u ≡ bytes w
      → command_seal key (framed (w ++ rest) x) (record { timestamp = u.timestamp; relay_id = u.relay_id; commands = content_of 0 (length w) }) ≡ bytes (content_bytes false l u.commands)
  unfolding command_seal
  command_again u e = again_by false key u.relay_id u.timestamp l u.commands w e rest x (eqb (length w) 0) refl

  -- opened it has what the clear bytes have, with 21 where the work buffer k is too short for them
  pub event_opened_lem : (u : EventPayload) (k : List ℕ) → event_seal key l u ≡ bytes w
      → decrypt_of key true u.relay_id u.timestamp (content_of 0 (length w)) (w ++ rest) k ≡ opened_by true (bytes (content_bytes true l u.events)) k
  unfolding event_seal
  event_opened_lem u k e = opened_by_lem true key u.relay_id u.timestamp l u.events w e rest k (eqb (length w) 0) refl

  pub command_opened_lem : (u : CommandPayload) (k : List ℕ) → command_seal key l u ≡ bytes w
      → decrypt_of key false u.relay_id u.timestamp (content_of 0 (length w)) (w ++ rest) k ≡ opened_by false (bytes (content_bytes false l u.commands)) k
  unfolding command_seal
  command_opened_lem u k e = opened_by_lem false key u.relay_id u.timestamp l u.commands w e rest k (eqb (length w) 0) refl
