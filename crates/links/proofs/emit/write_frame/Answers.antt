-- `links::emit::write_frame` meets its contract. Assumes nothing.
use lib.ListN.{length}
use borrow.Author.Tests.{not-true}
use Rattle.base.proofs.Answers.{out_length}
use Rattle.links.proofs.Steps.{refuses, same_frame, no_mic, frame_long_lem, frame_whole}
use borrow.Author.Rules.{rules}
use native.Mathlib.Omega.{arith}
use mathlib.Core.Path.{ap, ◌∙◌}
use Rattle.links.proofs.emit.write_frame.Goals as goal

pub returns-then-not-has_mic : goal.returns-then-not-has_mic
returns-then-not-has_mic c = (let both = refuses _ 27 _ (no_mic _ _ _ c.args.head.now c.args.payload.now (search (not-true, rules))) in record { answer = both.0; bytes = both.1 })

pub returns-then-head-payload-gt-BODY : goal.returns-then-head-payload-gt-BODY
returns-then-head-payload-gt-BODY c = (let both = refuses _ 5 _ (frame_long_lem _ _ _ c.args.head.now c.args.payload.now (c.if-not-has_mic.false) (omega arith)) in record { answer = both.0; bytes = both.1 })

pub shape_of-out : goal.shape_of-out
shape_of-out c = ap length c.emit.ensures.bytes ∙ out_length _ _

pub returns : goal.returns
returns c = (let both = same_frame _ _ _ _ _ (frame_whole _ _ c.args.first c.args.head.now c.args.payload.now _ c.be32_bytes-last.ensures (c.if-not-has_mic.false) (omega arith)) (c.emit.ensures.answer, c.emit.ensures.bytes) in record { answer = both.0; bytes = both.1 })
