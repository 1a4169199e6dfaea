-- `cmac::finish` meets its contract. Assumes nothing.
use Rattle.cipher.specs.inner.Words.{enciphered}
use Rattle.cmac_chain.proofs.Turns.{finish_short, finish_full}
use borrow.Author.Rules.{rules}
use native.Mathlib.Omega.{arith}
use Rattle.cmac.proofs.finish.Goals as goal

pub returns-then-count-lt16 : goal.returns-then-count-lt16
returns-then-count-lt16 c = let a = c.args in
    finish_short (enciphered a.e.now) a.m (omega arith) c.encipher.ensures c.add.ensures (search rules) c.subkey2-k2.ensures

pub returns : goal.returns
returns c = let a = c.args in
    finish_full (enciphered a.e.now) a.m (omega arith) c.encipher-2.ensures c.add-2.ensures (search rules) c.subkey1-k1.ensures
