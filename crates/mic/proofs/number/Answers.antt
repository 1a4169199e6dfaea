-- `mic::number` meets its contract. Assumes nothing.
use native.Mathlib.Omega.{arith}
use lib.ListN.{length}
use mathlib.Core.Path.{◌≡◌, ap, ◌∙◌}
use Rattle.wire.specs.Number.{be_of}
use Rattle.mic.proofs.Steps.{four_front}
use borrow.Author.Rules.{rules}
use Rattle.mic.proofs.number.Goals as goal

pub returns : goal.returns
returns c = let t = c.args.tag in
    let n : length t ≡ 16 = search rules in
    c.be32_of.ensures ∙ ap be_of (four_front t (omega arith))
