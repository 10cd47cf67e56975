use Rattle.std.proofs.Common.{subst, sym}
use Rattle.pm_pool.specs.Plane.{IsEdgeGrown}
use Rattle.pm_pool.specs.Region.{IsLive}
use Rattle.pm_pool.proofs.EdgesGrown.{edge-grown_at}
use Rattle.pm_pool.proofs.plane.PlaneDarts.grow_edge.Goals as goal

pub invariant_of-self : goal.invariant_of-self
invariant_of-self c = (edge-grown_at c.self.inside.pool _ _ _ _ c.self.invariant c.take-y.ensures c.pair.ensures.valid (subst (λ r. IsLive r c.args.x) (sym c.self.view_is) c.requires.live) c.pair.ensures.paired).plane

pub returns : goal.returns
returns c = subst (λ r. IsEdgeGrown r c.pair.new.self c.args.x c.take-y.result) c.self.view_is
    (edge-grown_at c.self.inside.pool _ _ _ _ c.self.invariant c.take-y.ensures c.pair.ensures.valid (subst (λ r. IsLive r c.args.x) (sym c.self.view_is) c.requires.live) c.pair.ensures.paired)
