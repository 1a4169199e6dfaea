-- Bodies, events and commands sealed, and events and commands opened. Assumes nothing.
use Rattle.std.specs.Prelude.{ℕ, Bool, true, false, List}
use Rattle.base.specs.Answers.{Writing, Answer, value, number, unless_refused}
use Rattle.base.specs.declared.Written.{Written}
use Rattle.base.specs.declared.Written.TheVariants.{Bytes, Refused}
use Rattle.key_stream.specs.Stream.{sealed_of}
use Rattle.contents.specs.Content.{Lent, content_of, content_refusal, content_bytes}
use Rattle.contents.specs.declared.content.Content.{Content}
use Rattle.events.specs.declared.stamped.EventPayload.{EventPayload}
use Rattle.events.specs.declared.stamped.EventRead.{EventRead}
use Rattle.events.specs.declared.stamped.EventRead.TheVariants.{Payload as EventIs, Refused as EventIsNot}
use Rattle.events.specs.declared.stamped.CommandPayload.{CommandPayload}
use Rattle.events.specs.declared.stamped.CommandRead.{CommandRead}
use Rattle.events.specs.declared.stamped.CommandRead.TheVariants.{Payload as CommandIs, Refused as CommandIsNot}
use Rattle.sealing.specs.Open.{Told, told, was_open}
use Rattle.sealing.specs.declared.content.Opened.{Opened}
use Rattle.sealing.specs.declared.content.Opened.TheVariants.{Opened as Now, AlreadyOpen, Refused as NotOpened}
use Rattle.sealing.specs.declared.event.EventOpened.{EventOpened}
use Rattle.sealing.specs.declared.event.EventOpened.TheVariants.{Opened as EventNow, AlreadyOpen as EventOpen, Refused as NoEvent}
use Rattle.sealing.specs.declared.command.CommandOpened.{CommandOpened}
use Rattle.sealing.specs.declared.command.CommandOpened.TheVariants.{Opened as CommandNow, AlreadyOpen as CommandOpen, Refused as NoCommand}

-- ---- sealing: what is written of the content, with the key stream added, or the first refusal: 29, 45, path entries, 19, 20, 5

unfoldable pub content_seal : List ℕ → Bool → ℕ → ℕ → Lent → Content → Writing
content_seal key ev relay time l b = unless_refused (content_refusal ev l b) (sealed_of key ev relay time (content_bytes ev l b))

unfoldable pub event_seal : List ℕ → Lent → EventPayload → Writing
event_seal key l p = content_seal key true p.relay_id p.timestamp l p.events

unfoldable pub command_seal : List ℕ → Lent → CommandPayload → Writing
command_seal key l p = content_seal key false p.relay_id p.timestamp l p.commands

-- it lies at the front of the output, which is lent as the frame from then on; what has no bytes is empty
unfoldable pub event_sealed : EventPayload → Written → EventRead
event_sealed p (Refused n) = EventIsNot n
event_sealed p (Bytes n) = EventIs (record { timestamp = p.timestamp; relay_id = p.relay_id; events = content_of 0 n })

unfoldable pub command_sealed : CommandPayload → Written → CommandRead
command_sealed p (Refused n) = CommandIsNot n
command_sealed p (Bytes n) = CommandIs (record { timestamp = p.timestamp; relay_id = p.relay_id; commands = content_of 0 n })

-- ---- opening: the payload with its content from now on

abbrev pub event_opened : EventPayload → Opened → EventOpened
event_opened p (NotOpened n) = NoEvent n
event_opened p AlreadyOpen = EventOpen
event_opened p (Now b o) = EventNow (record { timestamp = p.timestamp; relay_id = p.relay_id; events = b }) o

abbrev pub command_opened : CommandPayload → Opened → CommandOpened
command_opened p (NotOpened n) = NoCommand n
command_opened p AlreadyOpen = CommandOpen
command_opened p (Now b o) = CommandNow (record { timestamp = p.timestamp; relay_id = p.relay_id; commands = b }) o

abbrev pub event_opened_says : EventOpened → Answer (Told EventPayload)
event_opened_says (EventNow p o) = value (told p o)
event_opened_says EventOpen = value was_open
event_opened_says (NoEvent n) = number n

abbrev pub command_opened_says : CommandOpened → Answer (Told CommandPayload)
command_opened_says (CommandNow p o) = value (told p o)
command_opened_says CommandOpen = value was_open
command_opened_says (NoCommand n) = number n
