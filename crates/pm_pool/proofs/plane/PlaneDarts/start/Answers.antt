use Rattle.pm_pool.proofs.Planes.{started}
use Rattle.pm_pool.proofs.plane.PlaneDarts.start.Goals as goal

pub invariant_of-result : goal.invariant_of-result
invariant_of-result c = (started _ _ _ c.requires.none_live c.take-d.ensures).plane

pub returns : goal.returns
returns c = started _ _ _ c.requires.none_live c.take-d.ensures
