-- `sealing::mesh::of_event` meets its contract. Assumes nothing.
use mathlib.Core.Path.{ap}
use Rattle.packets.specs.declared.mesh.MeshPacket.{MeshPacket}
use Rattle.sealing.specs.declared.mesh.MeshOpened.TheVariants.{Opened as Now}
use Rattle.sealing.proofs.mesh.of_event.Goals as goal

pub returns-in-Refused : goal.returns-in-Refused
returns-in-Refused c = rw c.in-Refused.is

pub returns-in-AlreadyOpen : goal.returns-in-AlreadyOpen
returns-in-AlreadyOpen c = rw c.in-AlreadyOpen.is

pub returns-in-Opened : goal.returns-in-Opened
returns-in-Opened c = rw c.in-Opened.is (ap (λ (p : MeshPacket). Now p c.in-Opened.opening) c.carrying.ensures)
