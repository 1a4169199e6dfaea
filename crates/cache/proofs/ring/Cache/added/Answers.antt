-- `cache::ring::Cache::added` meets its contract. Assumes nothing.
use borrow.Author.Rules.{rules}
use Rattle.cache.proofs.Steps.{added_seen, added_new}
use Rattle.cache.proofs.ring.Cache.added.Goals as goal

pub returns-then-holds : goal.returns-then-holds
returns-then-holds c = added_seen _ _ (search rules) (search rules) _ c.least-n.ensures _ c.holds.ensures c.if-holds.true

pub returns : goal.returns
returns c = added_new _ _ (search rules) (search rules) _ c.least-n.ensures _ c.holds.ensures c.if-holds.false _ c.least-len.ensures
