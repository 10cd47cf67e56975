use Rattle.pm_pool.proofs.Twins.{pool-paired}
use Rattle.pm_pool.proofs.pool.Pool.pair.Goals as goal

pub invariant_of-self : goal.invariant_of-self
invariant_of-self c = (pool-paired _ _ _ _ _ _ c.self.view_is c.self.invariant c.requires.first c.requires.second c.requires.differ c.requires.first_stem c.requires.second_stem).1

pub returns-clause-valid : goal.returns-clause-valid
returns-clause-valid c = (pool-paired _ _ _ _ _ _ c.self.view_is c.self.invariant c.requires.first c.requires.second c.requires.differ c.requires.first_stem c.requires.second_stem).1.region

pub returns-clause-paired : goal.returns-clause-paired
returns-clause-paired c = (pool-paired _ _ _ _ _ _ c.self.view_is c.self.invariant c.requires.first c.requires.second c.requires.differ c.requires.first_stem c.requires.second_stem).0
