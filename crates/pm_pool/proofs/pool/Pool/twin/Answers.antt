use Rattle.pm_pool.proofs.Regions.{twin-live}
use Rattle.pm_pool.proofs.pool.Pool.twin.Goals as goal

pub returns-clause-live : goal.returns-clause-live
returns-clause-live c = twin-live _ _ _ _ c.self.view_is c.self.invariant.region c.requires c.index.ensures
