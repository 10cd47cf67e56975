use Rattle.pm_pool.proofs.Regions.{prev-live}
use Rattle.pm_pool.proofs.pool.Pool.prev.Goals as goal

pub returns-clause-live : goal.returns-clause-live
returns-clause-live c = prev-live _ _ _ _ c.self.view_is c.self.invariant.region c.requires c.index.ensures
