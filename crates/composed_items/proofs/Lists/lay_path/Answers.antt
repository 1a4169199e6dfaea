-- `composed_items::Lists::lay_path` meets its contract. Assumes nothing.
use native.Mathlib.Omega.{arith}
use Rattle.composed_items.proofs.Loops.{path_none, path_laid}
use Rattle.composed_items.proofs.Lists.lay_path.Goals as goal

pub returns-then-out-at : goal.returns-then-out-at
returns-then-out-at c = let a = c.args in rw (← c.self.view_is) (path_none c.self.inside.entries a.run.start a.run.len _ _ c.count.ensures c.held-n.ensures a.out.now a.at (omega arith))

pub returns-then-room-lt2 : goal.returns-then-room-lt2
returns-then-room-lt2 c = let a = c.args in rw (← c.self.view_is) (path_none c.self.inside.entries a.run.start a.run.len _ _ c.count.ensures c.held-n.ensures a.out.now a.at (omega arith))

pub returns-then-room-n : goal.returns-then-room-n
returns-then-room-n c = let a = c.args in rw (← c.self.view_is) (path_none c.self.inside.entries a.run.start a.run.len _ _ c.count.ensures c.held-n.ensures a.out.now a.at (omega arith))

pub returns : goal.returns
returns c = let a = c.args in rw (← c.self.view_is) (path_laid c.self.inside.entries a.run.start a.run.len _ _ c.count.ensures c.held-n.ensures a.out.now a.at (omega arith) _ _ _ c.low_byte.ensures c.put_all.ensures c.put.ensures)
