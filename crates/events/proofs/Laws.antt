-- Laws of events and commands: how long their heads are, that what is written is read back, and that what was read is written as the
-- same bytes. Assumes nothing.
use Prim.Native.Nat.{ℕ, ◌+◌, ◌-◌, ◌≤◌, ◌<◌}
use native.Mathlib.Omega.{arith}
use mathlib.Core.Bool.{Bool}
use mathlib.Core.Path.{◌≡◌, refl, sym, ap, ap₂, ◌∙◌}
use mathlib.Core.List.{List, [], ◌∷◌, ◌++◌}
use lib.Dec.{ltb}
use lib.ListN.{length, get_or}
use borrow.Author.Tests.{le-ltb, ltb-false}
use Rattle.base.proofs.Answers.{unless_bytes}
use Rattle.base.specs.Lists.{Bytes, from}
use Rattle.base.specs.Answers.{Writing, bytes, refused}
use Rattle.wire.specs.Number.{be_bytes}
use Rattle.wire.proofs.Laws.Number.{be_length, bytes_of_lem}
use Rattle.fields.proofs.Laws.Bytes.{none, ◌▸◌, small}
use Rattle.links.specs.Read.{four_at}
use Rattle.links.proofs.Laws.{with_four, four_is, spelt, third}
use Rattle.contents.specs.Content.{Lent, content_of, content_refusal, content_bytes, content_wire}
use Rattle.events.specs.Read.{stamped_at, as_event, event_at, as_command, command_at}
use Rattle.links.specs.Write.{headed_by}
use Rattle.events.specs.Write.{stamp, stamped_wire}
use Rattle.contents.specs.declared.content.Content.{Content}
use Rattle.events.specs.declared.stamped.EventPayload.{EventPayload}
use Rattle.events.specs.declared.stamped.EventRead.TheVariants.{Payload as AnEvent}
use Rattle.events.specs.declared.stamped.CommandPayload.{CommandPayload}
use Rattle.events.specs.declared.stamped.CommandRead.TheVariants.{Payload as ACommand}
use Rattle.events.specs.declared.stamped.Stamped.{Stamped}
use Rattle.events.specs.declared.stamped.StampedRead.{StampedRead}
use Rattle.events.specs.declared.stamped.StampedRead.TheVariants.{Stamped as AStamped, Refused as NoStamped}

-- a body that is neither too long nor too short
module _ (at : ℕ) (b : List ℕ) (h : length b ≤ 8187) where
  pub stamped_is : 8 ≤ length b → (t r : ℕ) (v : Content) → t ≡ four_at b 0 → r ≡ four_at b 4 → v ≡ content_of (8 + at) (length b - 8)
      → AStamped (record { timestamp = t; relay_id = r; content = v }) ≡ stamped_at at b
  unfolding stamped_at
  stamped_is l t r v et er ev = rw (et, er, ev) (simp (le-ltb 8187 (length b) h, le-ltb (length b) 8 l))

pub stamp_length : (t r : ℕ) → length (stamp t r) ≡ 8
unfolding stamp
stamp_length t r = with_four (be_bytes 4 t) (be_bytes 4 t ++ be_bytes 4 r) r 4 refl (be_length 4 t)

module _ (t r : ℕ) (v : List ℕ) (at : ℕ) (ht : t < 4294967296) (hr : r < 4294967296) (hv : length v ≤ 8179) where
  stamped_read_back : stamped_at at (stamp t r ++ v) ≡ AStamped (record { timestamp = t; relay_id = r; content = content_of (8 + at) (length v) })
  unfolding stamp
  stamped_read_back =
      let b = from 4 0 (λ i. get_or (be_bytes 4 t) i 0) ++ from 4 0 (λ i. get_or (be_bytes 4 r) i 0) ++ v in
      let l : length b - 8 ≡ length v = omega arith in
      ap (λ (x : List ℕ). stamped_at at (x ++ v)) (spelt 4 (be_bytes 4 t) r (be_length 4 t))
      ∙ sym (stamped_is at b (omega arith) (omega arith) t r (content_of (8 + at) (length v)) (sym (four_is t ht)) (sym (four_is r hr)) (ap (content_of (8 + at)) (sym l)))

  pub event_read_back : event_at at (stamp t r ++ v) ≡ AnEvent (record { timestamp = t; relay_id = r; events = content_of (8 + at) (length v) })
  unfolding event_at
  event_read_back = ap as_event stamped_read_back

  pub command_read_back : command_at at (stamp t r ++ v) ≡ ACommand (record { timestamp = t; relay_id = r; commands = content_of (8 + at) (length v) })
  unfolding command_at
  command_read_back = ap as_command stamped_read_back

-- ---- what a body that is written is made of

headed_bytes : (h : List ℕ) (f : Writing) (w : List ℕ) → headed_by h f ≡ bytes w → (v : List ℕ) × (f ≡ bytes v) × (w ≡ h ++ v)
headed_bytes h (bytes v) w e = (v, refl, cc)
headed_bytes h (refused n) w e = let z : ◌≡◌ {A = ℕ} 0 1 = cc in absurd (omega arith)

-- nothing of the payload is refused; timestamp and relay id, and behind them what is written of it
module _ (ev : Bool) (l : Lent) (p : Stamped) (w : List ℕ) where
  parts : stamped_wire ev l p ≡ bytes w → (v : List ℕ) × (content_wire ev l p.content ≡ bytes v) × (w ≡ stamp p.timestamp p.relay_id ++ v)
  unfolding stamped_wire
  parts e = headed_bytes (stamp p.timestamp p.relay_id) _ w e

  pub stamped_fine : stamped_wire ev l p ≡ bytes w → content_refusal ev l p.content ≡ 0
  unfolding content_wire
  stamped_fine e = let g = parts e in (unless_bytes (content_refusal ev l p.content) (bytes (content_bytes ev l p.content)) g.0 g.1).0

  pub stamped_bytes : stamped_wire ev l p ≡ bytes w → w ≡ stamp p.timestamp p.relay_id ++ content_bytes ev l p.content
  unfolding content_wire
  stamped_bytes e =
      let g = parts e in
      let u = unless_bytes (content_refusal ev l p.content) (bytes (content_bytes ev l p.content)) g.0 g.1 in
      let y : content_bytes ev l p.content ≡ g.0 = cc u.1 in
      g.2 ∙ ap (λ (v : List ℕ). stamp p.timestamp p.relay_id ++ v) (sym y)

-- ---- writing what was read

module _ (at : ℕ) (b : List ℕ) where
  pub record StampedIs (p : Stamped) : Type 0 where
    pub most : length b ≤ 8187
    pub least : 8 ≤ length b
    pub time_is : p.timestamp ≡ four_at b 0
    pub relay_is : p.relay_id ≡ four_at b 4
    pub body_is : p.content ≡ content_of (8 + at) (length b - 8)

  stamped_was : (p : Stamped) → stamped_at at b ≡ AStamped p → StampedIs p
  unfolding stamped_at
  stamped_was p e =
      let t = third (ltb 8187 (length b)) (ltb (length b) 8) _ _ _ (AStamped p) (λ q. let z : ◌≡◌ {A = ℕ} 0 1 = cc in omega arith) (λ q. let z : ◌≡◌ {A = ℕ} 0 1 = cc in omega arith) e in
      record { most = ltb-false _ _ t.0; least = ltb-false _ _ t.1; time_is = cc; relay_is = cc; body_is = cc }

  stamped_again : (p : Stamped) → Bytes b → StampedIs p → stamp p.timestamp p.relay_id ≡ from 8 0 (λ i. get_or b i 0)
  unfolding stamp
  stamped_again p h w =
      ap₂ (λ (t r : ℕ). be_bytes 4 t ++ be_bytes 4 r) w.time_is w.relay_is
      ∙ ap₂ {B = List ℕ} (λ (x y : List ℕ). x ++ y)
      (bytes_of_lem (get_or b 0 0 ∷ get_or b 1 0 ∷ get_or b 2 0 ∷ get_or b 3 0 ∷ []) (small (h 0 ▸ h 1 ▸ h 2 ▸ h 3 ▸ none)))
      (bytes_of_lem (get_or b 4 0 ∷ get_or b 5 0 ∷ get_or b 6 0 ∷ get_or b 7 0 ∷ []) (small (h 4 ▸ h 5 ▸ h 6 ▸ h 7 ▸ none)))

  -- what an event or a command was read from
  as_event_lem : (s : StampedRead) (p : EventPayload) → as_event s ≡ AnEvent p → s ≡ AStamped (record { timestamp = p.timestamp; relay_id = p.relay_id; content = p.events })
  as_event_lem (NoStamped n) p e = let z : ◌≡◌ {A = ℕ} 0 1 = cc in absurd (omega arith)
  as_event_lem (AStamped s) p e = ap (λ (q : EventPayload). AStamped (record { timestamp = q.timestamp; relay_id = q.relay_id; content = q.events })) (cc)

  as_command_lem : (s : StampedRead) (p : CommandPayload) → as_command s ≡ ACommand p → s ≡ AStamped (record { timestamp = p.timestamp; relay_id = p.relay_id; content = p.commands })
  as_command_lem (NoStamped n) p e = let z : ◌≡◌ {A = ℕ} 0 1 = cc in absurd (omega arith)
  as_command_lem (AStamped s) p e = ap (λ (q : CommandPayload). AStamped (record { timestamp = q.timestamp; relay_id = q.relay_id; content = q.commands })) (cc)

  pub event_was : (p : EventPayload) → event_at at b ≡ AnEvent p → StampedIs (record { timestamp = p.timestamp; relay_id = p.relay_id; content = p.events })
  unfolding event_at
  event_was p e = stamped_was _ (as_event_lem (stamped_at at b) p e)

  pub command_was : (p : CommandPayload) → command_at at b ≡ ACommand p → StampedIs (record { timestamp = p.timestamp; relay_id = p.relay_id; content = p.commands })
  unfolding command_at
  command_was p e = stamped_was _ (as_command_lem (stamped_at at b) p e)

  pub event_again : (p : EventPayload) → Bytes b → event_at at b ≡ AnEvent p → stamp p.timestamp p.relay_id ≡ from 8 0 (λ i. get_or b i 0)
  event_again p h e = stamped_again _ h (event_was p e)

  pub command_again : (p : CommandPayload) → Bytes b → command_at at b ≡ ACommand p → stamp p.timestamp p.relay_id ≡ from 8 0 (λ i. get_or b i 0)
  command_again p h e = stamped_again _ h (command_was p e)
