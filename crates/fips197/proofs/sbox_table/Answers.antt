-- `fips197::sbox_table` meets its contract. Assumes nothing.
use Rattle.fips197.proofs.Table.{sbox_is}
use Rattle.fips197.proofs.sbox_table.Goals as goal

pub returns : goal.returns
returns c = sbox_is
