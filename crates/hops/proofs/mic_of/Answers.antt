-- `hops::mic_of` meets its contract. Assumes nothing.
use native.Mathlib.Omega.{arith}
use mathlib.Core.Path.{◌≡◌, sym, ap, ◌∙◌}
use lib.ListN.{length, take}
use lib.Seq.{length-take-le}
use Rattle.wire.specs.Number.{be_of}
use Rattle.mic.specs.Mic.{mic_of}
use Rattle.mic.proofs.Steps.{four_front}
use borrow.Author.Rules.{rules}
use Rattle.hops.proofs.mic_of.Goals as goal

pub slice_bounds-cmac-end : goal.slice_bounds-cmac-end
slice_bounds-cmac-end c = sym (length-take-le _ c.args.frame.now (omega arith))

pub returns : goal.returns
unfolding mic_of
returns c =
    let t = c.cmac-tag.result in
    let n : length t ≡ 16 = search rules in
    c.be32_of.ensures ∙ ap be_of (four_front t (omega arith) ∙ ap (take 4) c.cmac-tag.ensures)
