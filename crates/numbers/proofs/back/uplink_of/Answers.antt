-- `numbers::back::uplink_of` meets its contract. Assumes nothing.
use mir.Facts.{to_z-of_z}
use Rattle.numbers.proofs.back.uplink_of.Goals as goal

pub returns : goal.returns
returns c =
    rw (to_z-of_z c.ranges.rssi, to_z-of_z c.ranges.snr, c.to_u16.ensures, c.to_u8.ensures, c.to_u8-2.ensures, c.to_u8-3.ensures, c.to_u32.ensures, c.run_of.ensures)
