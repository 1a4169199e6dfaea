-- `numbers::write::write_any` meets its contract. Assumes nothing.
use mir.Facts.{to_z-of_z}
use lib.ListN.{length}
use mathlib.Core.Path.{sym, ap, ◌∙◌}
use Rattle.base.specs.Answers.{refused}
use Rattle.base.proofs.Answers.{out_length}
use Rattle.links.proofs.Steps.{same_frame}
use Rattle.packets.specs.Write.{packet_frame}
use Rattle.numbers.specs.Numbers.{if_packet, numbers_frame}
use Rattle.numbers.proofs.Laws.{numbers_refused}
use Rattle.numbers.proofs.write.write_any.Goals as goal

pub returns-in-Refused : goal.returns-in-Refused
returns-in-Refused c =
    (let both = numbers_refused _ _ _ _ _ _ (sym (rw (to_z-of_z c.ranges.rssi, to_z-of_z c.ranges.snr) at c.packet_of.ensures) ∙ c.in-Refused.is) in record { answer = both.0; out = both.1 })

pub shape_of-out : goal.shape_of-out
shape_of-out c =
    ap length c.write.ensures.bytes ∙ out_length _ _

pub returns-in-Packet : goal.returns-in-Packet
unfolding numbers_frame
returns-in-Packet c =
    let a = c.args in
    (let both = same_frame _ _ _ _ _ (ap (if_packet (packet_frame a.lent.now) refused) (sym (rw (to_z-of_z c.ranges.rssi, to_z-of_z c.ranges.snr) at c.packet_of.ensures) ∙ c.in-Packet.is)) (c.write.ensures.answer, c.write.ensures.bytes) in record { answer = both.0; out = both.1 })
