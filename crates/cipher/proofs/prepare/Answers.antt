-- `cipher::prepare` meets its contract. Assumes nothing.
use mathlib.Core.Path.{◌∙◌}
use Rattle.cipher.proofs.Laws.{copied_out}
use Rattle.cipher.proofs.prepare.Goals as goal

pub returns : goal.returns
returns c = let k = c.load-k.ensures in
    let b = c.to_bytes.ensures in
    copied_out _ _ _ _ (c.copy_from_slice.ensures.after ∙ c.te_table.ensures) (cc) c.copy_from_slice-2.ensures.after
