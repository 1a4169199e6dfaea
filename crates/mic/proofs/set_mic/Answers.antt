-- `mic::set_mic` meets its contract. Assumes nothing.
use Rattle.fips197.specs.Aes.{aes}
use Rattle.mic.proofs.Steps.{set_refused, set_made}
use Rattle.mic.proofs.set_mic.Goals as goal

pub returns-in-Refused : goal.returns-in-Refused
returns-in-Refused c = let a = c.args in set_refused (aes a.key.0) a.lent.now a.p _ _ c.make.ensures c.in-Refused.is

pub returns-in-Mic : goal.returns-in-Mic
returns-in-Mic c = let a = c.args in set_made (aes a.key.0) a.lent.now a.p _ _ c.make.ensures c.in-Mic.is
