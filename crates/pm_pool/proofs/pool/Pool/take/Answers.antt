use Rattle.pm_pool.proofs.Regions.{pool-taken}
use Rattle.pm_pool.proofs.pool.Pool.take.Goals as goal

pub invariant_of-self : goal.invariant_of-self
invariant_of-self c = (pool-taken _ _ _ _ _ c.self.view_is c.self.invariant c.requires c.index-d.ensures).1

pub returns : goal.returns
returns c = (pool-taken _ _ _ _ _ c.self.view_is c.self.invariant c.requires c.index-d.ensures).0
