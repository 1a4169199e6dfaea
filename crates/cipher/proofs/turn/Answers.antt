-- `cipher::turn` meets its contract. Assumes nothing.
use mathlib.Core.Path.{◌∙◌}
use Rattle.cipher.proofs.Turned.{rotated}
use Rattle.cipher.proofs.turn.Goals as goal

pub returns : goal.returns
returns g c = c.rotate_right.ensures ∙ rotated g.row.K c.args.x c.requires c.ranges.x.fits
