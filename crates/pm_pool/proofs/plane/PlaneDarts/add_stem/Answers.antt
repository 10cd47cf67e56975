use Rattle.std.proofs.Common.{subst, sym}
use Rattle.pm_pool.specs.Plane.{IsStemAdded}
use Rattle.pm_pool.specs.Region.{IsLive}
use Rattle.pm_pool.proofs.StemsAdded.{stem-added}
use Rattle.pm_pool.proofs.plane.PlaneDarts.add_stem.Goals as goal

pub invariant_of-self : goal.invariant_of-self
invariant_of-self c = (stem-added c.self.inside.pool _ _ c.args.at _ c.self.invariant c.take-d.ensures c.insert_after.ensures (subst (λ r. IsLive r c.args.at) (sym c.self.view_is) c.requires.live)).plane

pub returns : goal.returns
returns c = subst (λ r. IsStemAdded r c.insert_after.new.self c.args.at c.take-d.result) c.self.view_is
    (stem-added c.self.inside.pool _ _ c.args.at _ c.self.invariant c.take-d.ensures c.insert_after.ensures (subst (λ r. IsLive r c.args.at) (sym c.self.view_is) c.requires.live))
