-- `numbers::back::packet_of` meets its contract. Assumes nothing.
use mir.Facts.{to_z-of_z}
use mathlib.Core.Path.{sym, ap, ◌∙◌}
use Rattle.wire.specs.declared.run.Run.{Run}
use Rattle.packets.specs.Read.{of_mesh}
use Rattle.packets.specs.declared.any.Packet.TheVariants.{Lora}
use Rattle.packets.specs.declared.any.PacketRead.TheVariants.{Packet}
use Rattle.numbers.proofs.Laws.{packet_wide, packet_lora, packet_mesh}
use Rattle.numbers.proofs.back.packet_of.Goals as goal

pub returns-then-too_wide : goal.returns-then-too_wide
returns-then-too_wide c =
    sym (packet_wide _ _ _ _ c.too_wide.ensures c.if-too_wide.true)

pub returns-then-numbers : goal.returns-then-numbers
returns-then-numbers c =
    ap (λ (r : Run). Packet (Lora r)) c.run_of.ensures ∙ sym (packet_lora _ _ _ _ c.too_wide.ensures c.if-too_wide.false c.if-numbers.true)

pub returns-in-Refused : goal.returns-in-Refused
returns-in-Refused c =
    ap of_mesh (sym c.in-Refused.is ∙ (rw (to_z-of_z c.ranges.rssi, to_z-of_z c.ranges.snr) at c.mesh_of.ensures)) ∙ sym (packet_mesh _ _ _ _ c.too_wide.ensures c.if-too_wide.false c.if-numbers.false)

pub returns-in-Mesh : goal.returns-in-Mesh
returns-in-Mesh c =
    ap of_mesh (sym c.in-Mesh.is ∙ (rw (to_z-of_z c.ranges.rssi, to_z-of_z c.ranges.snr) at c.mesh_of.ensures)) ∙ sym (packet_mesh _ _ _ _ c.too_wide.ensures c.if-too_wide.false c.if-numbers.false)
