-- `numbers::back::downlink_of` meets its contract. Assumes nothing.
use Rattle.numbers.proofs.back.downlink_of.Goals as goal

pub returns : goal.returns
returns c =
    rw (c.to_u16.ensures, c.to_u8.ensures, c.to_u32.ensures, c.to_u8-2.ensures, c.to_u8-3.ensures, c.to_u32-2.ensures, c.run_of.ensures)
