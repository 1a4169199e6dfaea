-- Laws of what is written before the MIC: the kinds of composed items come first, and what has bytes has none that is refused. Assumes
-- nothing.
use Prim.Native.Nat.{ℕ}
use mathlib.Core.Bool.{true, false}
use mathlib.Core.Path.{◌≡◌, refl, sym, ap₂, ◌∙◌}
use mathlib.Core.List.{List, []}
use Rattle.base.specs.Numbers.{type_large}
use Rattle.base.specs.Answers.{bytes, refused}
use Rattle.base.proofs.Answers.{is_refused, not_refused}
use Rattle.fields.specs.Header.{header_byte}
use Rattle.contents.specs.Content.{Lent}
use Rattle.contents.proofs.Laws.{known_content, no_lists, content_29}
use Rattle.events.specs.Write.{event_wire, command_wire, stamped_of_event, stamped_of_command}
use Rattle.events.proofs.Laws.{stamped_fine}
use Rattle.packets.specs.Write.{payload_wire, payload_kinds, kinds_in, behind, message_of}
use Rattle.packets.specs.declared.mesh.Payload.{Payload}
use Rattle.packets.specs.declared.mesh.Payload.TheVariants.{Uplink, Downlink, Event, Command}
use Rattle.packets.specs.declared.mesh.MeshPacket.{MeshPacket}

module _ (l : Lent) (p : MeshPacket) (k : ℕ) (e : k ≡ kinds_in l p) where
  pub message_strange : (k ≡ 0 → ⊥) → message_of l p ≡ refused k
  unfolding message_of
  message_strange h = sym (is_refused k (kinds_in l p) _ e h)

  pub message_known : k ≡ 0 → message_of l p ≡ behind (header_byte p.mhdr) (payload_wire l p.payload)
  unfolding message_of
  message_known z = sym (not_refused (kinds_in l p) _ (sym e ∙ z))

pub known_payload : (l : Lent) (q : Payload) (w : List ℕ) → payload_wire l q ≡ bytes w → payload_kinds l.lists.kinds l.lists.spans q ≡ 0
unfolding payload_wire payload_kinds event_wire command_wire
known_payload l (Uplink p) w e = refl
known_payload l (Downlink p) w e = refl
known_payload l (Event p) w e = known_content true l p.events (stamped_fine true l (stamped_of_event p) w e)
known_payload l (Command p) w e = known_content false l p.commands (stamped_fine false l (stamped_of_command p) w e)

-- so that what stands before the MIC is header byte and body, where the body has bytes or no lists are lent
pub message_is : (l : Lent) (p : MeshPacket) (w : List ℕ) → payload_wire l p.payload ≡ bytes w → message_of l p ≡ behind (header_byte p.mhdr) (payload_wire l p.payload)
message_is l p w e = message_known l p 0 (sym (known_payload l p.payload w e)) refl

none_known : (q : Payload) → payload_kinds [] [] q ≡ 0
unfolding payload_kinds
none_known (Uplink p) = refl
none_known (Downlink p) = refl
none_known (Event p) = no_lists true p.events
none_known (Command p) = no_lists false p.commands

pub message_alone : (l : Lent) (p : MeshPacket) → l.lists.kinds ≡ [] → l.lists.spans ≡ [] → message_of l p ≡ behind (header_byte p.mhdr) (payload_wire l p.payload)
message_alone l p a b =
    message_known l p 0 (sym (ap₂ (λ (k s : List (List ℕ)). payload_kinds k s p.payload) a b ∙ none_known p.payload)) refl

-- and what is refused is refused with 29
pub strange_29 : (kinds spans : List (List ℕ)) (q : Payload) → (payload_kinds kinds spans q ≡ 0 → ⊥) → payload_kinds kinds spans q ≡ type_large
unfolding payload_kinds
strange_29 kinds spans (Uplink p) h = absurd (h refl)
strange_29 kinds spans (Downlink p) h = absurd (h refl)
strange_29 kinds spans (Event p) h = content_29 true kinds spans p.events h
strange_29 kinds spans (Command p) h = content_29 false kinds spans p.commands h
