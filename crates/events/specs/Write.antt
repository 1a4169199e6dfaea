-- Events and commands written: the bytes of the body, or the first refusal in the order 45, the first bad path entry, 19, 20. Assumes
-- nothing.
use Rattle.std.specs.Prelude.{ℕ, Bool, true, false, List, ◌++◌}
use Rattle.base.specs.Answers.{Writing}
use Rattle.wire.specs.Number.{be_bytes}
use Rattle.contents.specs.Content.{Lent, content_wire}
use Rattle.events.specs.declared.stamped.EventPayload.{EventPayload}
use Rattle.events.specs.declared.stamped.CommandPayload.{CommandPayload}
use Rattle.events.specs.declared.stamped.Stamped.{Stamped}
use Rattle.links.specs.Write.{headed_by}

-- timestamp and relay id
unfoldable pub stamp : ℕ → ℕ → List ℕ
stamp time relay = be_bytes 4 time ++ be_bytes 4 relay

unfoldable pub stamped_wire : Bool → Lent → Stamped → Writing
stamped_wire ev l p = headed_by (stamp p.timestamp p.relay_id) (content_wire ev l p.content)

abbrev pub stamped_of_event : EventPayload → Stamped
stamped_of_event p = record { timestamp = p.timestamp; relay_id = p.relay_id; content = p.events }

abbrev pub stamped_of_command : CommandPayload → Stamped
stamped_of_command p = record { timestamp = p.timestamp; relay_id = p.relay_id; content = p.commands }

unfoldable pub event_wire : Lent → EventPayload → Writing
event_wire l p = stamped_wire true l (stamped_of_event p)

unfoldable pub command_wire : Lent → CommandPayload → Writing
command_wire l p = stamped_wire false l (stamped_of_command p)
