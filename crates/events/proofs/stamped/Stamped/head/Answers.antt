-- `events::stamped::Stamped::head` meets its contract. Assumes nothing.
use lib.ListN.{length}
use mathlib.Core.List.{List, ◌++◌}
use Prim.Native.Nat.{ℕ}
use Rattle.base.proofs.Lists.{listed}
use Rattle.wire.proofs.Laws.Number.{be_length}
use Rattle.events.specs.Write.{stamp}
use mathlib.Core.Path.{ap, ap₂, ◌∙◌}
use Rattle.events.proofs.stamped.Stamped.head.Goals as goal

pub returns : goal.returns
unfolding stamp
returns c = let t = c.be32_bytes-t.ensures in
    let r = c.be32_bytes-r.ensures in
    ap₂ {B = List ℕ} (λ (x y : List ℕ). x ++ y) (listed 4 _ (ap length t ∙ be_length 4 _) ∙ t) (listed 4 _ (ap length r ∙ be_length 4 _) ∙ r)
