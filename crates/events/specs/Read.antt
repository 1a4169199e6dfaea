-- Events and commands read. `at` is where the body starts in its frame, so that a run is a place in the frame. Assumes nothing.
use Rattle.std.specs.Prelude.{ℕ, ◌+◌, ◌-◌, List, ltb, length}
use Rattle.base.specs.Pick.{pick}
use Rattle.base.specs.Numbers.{frame_long, body_short, body_most}
use Rattle.base.specs.Answers.{Answer, value, number}
use Rattle.links.specs.Read.{four_at}
use Rattle.contents.specs.Content.{content_of}
use Rattle.events.specs.declared.stamped.EventPayload.{EventPayload}
use Rattle.events.specs.declared.stamped.EventRead.{EventRead}
use Rattle.events.specs.declared.stamped.EventRead.TheVariants.{Payload as AnEvent, Refused as NoEvent}
use Rattle.events.specs.declared.stamped.CommandPayload.{CommandPayload}
use Rattle.events.specs.declared.stamped.CommandRead.{CommandRead}
use Rattle.events.specs.declared.stamped.CommandRead.TheVariants.{Payload as ACommand, Refused as NoCommand}
use Rattle.events.specs.declared.stamped.StampedRead.{StampedRead}
use Rattle.events.specs.declared.stamped.StampedRead.TheVariants.{Stamped as AStamped, Refused as NoStamped}

unfoldable pub stamped_at : ℕ → List ℕ → StampedRead
stamped_at at b =
    pick (ltb body_most (length b)) (NoStamped frame_long)
    (pick (ltb (length b) 8) (NoStamped body_short)
    (AStamped (record { timestamp = four_at b 0; relay_id = four_at b 4; content = content_of (8 + at) (length b - 8) })))

abbrev pub as_event : StampedRead → EventRead
as_event (NoStamped n) = NoEvent n
as_event (AStamped s) = AnEvent (record { timestamp = s.timestamp; relay_id = s.relay_id; events = s.content })

abbrev pub as_command : StampedRead → CommandRead
as_command (NoStamped n) = NoCommand n
as_command (AStamped s) = ACommand (record { timestamp = s.timestamp; relay_id = s.relay_id; commands = s.content })

unfoldable pub event_at : ℕ → List ℕ → EventRead
event_at at b = as_event (stamped_at at b)

unfoldable pub command_at : ℕ → List ℕ → CommandRead
command_at at b = as_command (stamped_at at b)

-- the refusal's number, or the value
abbrev pub event_says : EventRead → Answer EventPayload
event_says (AnEvent p) = value p
event_says (NoEvent n) = number n

abbrev pub command_says : CommandRead → Answer CommandPayload
command_says (ACommand p) = value p
command_says (NoCommand n) = number n
