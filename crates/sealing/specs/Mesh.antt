-- Packets sealed and opened: events and commands, and nothing is done to uplinks and downlinks. Assumes nothing.
use Rattle.std.specs.Prelude.{true, false, List, [], ℕ}
use Rattle.base.specs.Answers.{Writing, bytes, answer_of, Answer, value, number}
use Rattle.items.specs.Items.{nothing}
use Rattle.contents.specs.Content.{Lent}
use Rattle.events.specs.declared.stamped.EventRead.{EventRead}
use Rattle.events.specs.declared.stamped.EventRead.TheVariants.{Payload as EventIs, Refused as NoEvent}
use Rattle.events.specs.declared.stamped.CommandRead.{CommandRead}
use Rattle.events.specs.declared.stamped.CommandRead.TheVariants.{Payload as CommandIs, Refused as NoCommand}
use Rattle.packets.specs.Read.{carrying}
use Rattle.packets.specs.declared.mesh.Payload.{Payload}
use Rattle.packets.specs.declared.mesh.Payload.TheVariants.{Uplink, Downlink, Event, Command}
use Rattle.packets.specs.declared.mesh.MeshPacket.{MeshPacket}
use Rattle.packets.specs.declared.mesh.MeshRead.{MeshRead}
use Rattle.packets.specs.declared.mesh.MeshRead.TheVariants.{Mesh, Refused}
use Rattle.sealing.specs.Open.{decrypt_of, work_after, decode_of, Told, told, was_open}
use Rattle.sealing.specs.Seal.{event_seal, event_sealed, command_seal, command_sealed, event_opened, command_opened}
use Rattle.sealing.specs.declared.event.EventOpened.{EventOpened}
use Rattle.sealing.specs.declared.event.EventOpened.TheVariants.{Opened as EventNow, AlreadyOpen as EventOpen, Refused as EventNot}
use Rattle.sealing.specs.declared.command.CommandOpened.{CommandOpened}
use Rattle.sealing.specs.declared.command.CommandOpened.TheVariants.{Opened as CommandNow, AlreadyOpen as CommandOpen, Refused as CommandNot}
use Rattle.sealing.specs.declared.mesh.MeshOpened.{MeshOpened}
use Rattle.sealing.specs.declared.mesh.MeshOpened.TheVariants.{Opened as Now, AlreadyOpen, Refused as NotOpened}

-- an uplink or a downlink: opening it reports nothing
abbrev pub nothing_to_open : MeshPacket → MeshOpened
nothing_to_open p = Now p nothing

-- ---- sealing

abbrev pub of_event_sealed : MeshPacket → EventRead → MeshRead
of_event_sealed p (EventIs u) = Mesh (carrying p (Event u))
of_event_sealed p (NoEvent n) = Refused n

abbrev pub of_command_sealed : MeshPacket → CommandRead → MeshRead
of_command_sealed p (CommandIs u) = Mesh (carrying p (Command u))
of_command_sealed p (NoCommand n) = Refused n

-- what is laid into the output: nothing of an uplink or a downlink
abbrev pub seal_of : List ℕ → Lent → Payload → Writing
seal_of key l (Uplink u) = bytes []
seal_of key l (Downlink u) = bytes []
seal_of key l (Event u) = event_seal key l u
seal_of key l (Command u) = command_seal key l u

unfoldable pub mesh_sealed : List ℕ → Lent → MeshPacket → Payload → List ℕ → MeshRead
mesh_sealed key l p (Uplink u) o = Mesh p
mesh_sealed key l p (Downlink u) o = Mesh p
mesh_sealed key l p (Event u) o = of_event_sealed p (event_sealed u (answer_of (event_seal key l u) o))
mesh_sealed key l p (Command u) o = of_command_sealed p (command_sealed u (answer_of (command_seal key l u) o))

-- ---- opening

abbrev pub of_event_opened : MeshPacket → EventOpened → MeshOpened
of_event_opened p (EventNow u o) = Now (carrying p (Event u)) o
of_event_opened p EventOpen = AlreadyOpen
of_event_opened p (EventNot n) = NotOpened n

abbrev pub of_command_opened : MeshPacket → CommandOpened → MeshOpened
of_command_opened p (CommandNow u o) = Now (carrying p (Command u)) o
of_command_opened p CommandOpen = AlreadyOpen
of_command_opened p (CommandNot n) = NotOpened n

unfoldable pub mesh_decrypted : List ℕ → MeshPacket → Payload → List ℕ → List ℕ → MeshOpened
mesh_decrypted key p (Uplink u) f w = nothing_to_open p
mesh_decrypted key p (Downlink u) f w = nothing_to_open p
mesh_decrypted key p (Event u) f w = of_event_opened p (event_opened u (decrypt_of key true u.relay_id u.timestamp u.events f w))
mesh_decrypted key p (Command u) f w = of_command_opened p (command_opened u (decrypt_of key false u.relay_id u.timestamp u.commands f w))

-- what the work buffer holds then
unfoldable pub mesh_work : List ℕ → Payload → List ℕ → List ℕ → List ℕ
mesh_work key (Uplink u) f w = w
mesh_work key (Downlink u) f w = w
mesh_work key (Event u) f w = work_after key true u.relay_id u.timestamp u.events f w
mesh_work key (Command u) f w = work_after key false u.relay_id u.timestamp u.commands f w

unfoldable pub mesh_decoded : MeshPacket → Payload → List ℕ → List ℕ → MeshOpened
mesh_decoded p (Uplink u) f w = nothing_to_open p
mesh_decoded p (Downlink u) f w = nothing_to_open p
mesh_decoded p (Event u) f w = of_event_opened p (event_opened u (decode_of true u.events f w))
mesh_decoded p (Command u) f w = of_command_opened p (command_opened u (decode_of false u.commands f w))

abbrev pub mesh_opened_says : MeshOpened → Answer (Told MeshPacket)
mesh_opened_says (Now p o) = value (told p o)
mesh_opened_says AlreadyOpen = value was_open
mesh_opened_says (NotOpened n) = number n
