-- `mesh_dump::line_end` meets its contract. Assumes nothing.
use mathlib.Core.Path.{◌≡◌, refl, ◌∙◌}
use lib.Dec.{eqb}
use Rattle.std.proofs.Common.{rules, tests}
use Rattle.std.specs.List.{position}
use Rattle.std.proofs.lemmas.Iterator.{YieldsList-from_slice}
use Rattle.std.proofs.lemmas.Iterator.Search.{position_from_yields_List}
use Rattle.mesh_dump.proofs.Laws.{first_at}
use Rattle.mesh_dump.proofs.line_end.Goals as goal

pub returns : goal.returns
returns c =
    let s = c.args.rest.now in
    let e : c.position.result ≡ position (λ b. eqb b 10) s =
    position_from_yields_List _ _ _ c.position.result c.position.ensures.ran (YieldsList-from_slice s cc) (λ x b q k. search (rules, tests)) in
    c.unwrap_or.ensures ∙ first_at s _ _ e refl
