use Rattle.std.proofs.Common.{◌≢◌, slice_index, subst, sym}
use Rattle.pm_pool.specs.Plane.{IsPlaneRegion, IsStemDropped}
use Rattle.pm_pool.specs.Region.{IsLive, Region}
use Rattle.pm_pool.proofs.StemsAdded.{stem-dropped}
use Rattle.pm_pool.proofs.plane.PlaneDarts.drop_stem.Goals as goal

pub invariant_of-self : goal.invariant_of-self
invariant_of-self c =
    subst IsPlaneRegion (sym c.give.ensures)
    (stem-dropped c.self.inside.pool _ c.args.d c.self.invariant (subst (λ r. IsLive r c.args.d) (sym c.self.view_is) c.requires.live)
    (subst (λ (r : Region). slice_index r.next c.args.d ≢ c.args.d) (sym c.self.view_is) c.requires.not_alone) c.remove.ensures).plane

pub returns : goal.returns
returns c =
    subst (λ r. IsStemDropped r c.give.new.self c.args.d) c.self.view_is (subst (λ r. IsStemDropped c.self.inside.pool r c.args.d) (sym c.give.ensures)
    (stem-dropped c.self.inside.pool _ c.args.d c.self.invariant (subst (λ r. IsLive r c.args.d) (sym c.self.view_is) c.requires.live)
    (subst (λ (r : Region). slice_index r.next c.args.d ≢ c.args.d) (sym c.self.view_is) c.requires.not_alone) c.remove.ensures))
