-- `cipher::te_table` meets its contract. Assumes nothing.
use Rattle.cipher.proofs.Table.{te_is}
use Rattle.cipher.proofs.te_table.Goals as goal

pub returns : goal.returns
returns c = te_is
