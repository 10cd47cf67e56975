use Rattle.pm_pool.proofs.Twins.{pool-parted}
use Rattle.pm_pool.proofs.pool.Pool.part.Goals as goal

pub invariant_of-self : goal.invariant_of-self
invariant_of-self c = (pool-parted _ _ _ _ _ _ c.self.view_is c.self.invariant c.requires.live c.requires.no_stem c.index-y.ensures).1

pub returns-clause-valid : goal.returns-clause-valid
returns-clause-valid c = (pool-parted _ _ _ _ _ _ c.self.view_is c.self.invariant c.requires.live c.requires.no_stem c.index-y.ensures).1.region

pub returns-clause-parted : goal.returns-clause-parted
returns-clause-parted c = (pool-parted _ _ _ _ _ _ c.self.view_is c.self.invariant c.requires.live c.requires.no_stem c.index-y.ensures).0
