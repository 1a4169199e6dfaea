-- `fields::path::RelayPath::all_even` meets its contract. Assumes nothing.
use mathlib.Core.Path.{ap, ◌∙◌}
use Rattle.std.proofs.Common.{rules}
use Rattle.fields.specs.Path.{all_even}
use Rattle.fields.proofs.Laws.Path.{told_even}
use Rattle.fields.proofs.path.RelayPath.all_even.Goals as goal

-- what was told of the bytes that the iterator was given, which are the path's
pub returns : goal.returns
returns c =
    let r = c.all.ensures.runs in told_even r.0 c.chunks_exact.result.rest.now (search rules) (search rules) (search rules) c.all.result r.2 ∙ ap all_even c.chunks_exact.ensures.rest
