-- `links::emit::write_body` meets its contract. Assumes nothing.
use lib.ListN.{length}
use Rattle.base.proofs.Answers.{out_length}
use Rattle.links.proofs.Steps.{refuses, same_frame, body_long, body_whole}
use native.Mathlib.Omega.{arith}
use mathlib.Core.Path.{ap, ◌∙◌}
use Rattle.links.proofs.emit.write_body.Goals as goal

pub returns-then-head-payload-gt-BODY : goal.returns-then-head-payload-gt-BODY
returns-then-head-payload-gt-BODY c = (let both = refuses _ 5 _ (body_long c.args.head.now c.args.payload.now (omega arith)) in record { answer = both.0; bytes = both.1 })

pub shape_of-out : goal.shape_of-out
shape_of-out c = ap length c.emit.ensures.bytes ∙ out_length _ _

pub returns : goal.returns
returns c = (let both = same_frame _ _ _ _ _ (body_whole c.args.head.now c.args.payload.now (omega arith)) (c.emit.ensures.answer, c.emit.ensures.bytes) in record { answer = both.0; bytes = both.1 })
