use Rattle.std.proofs.Common.{subst, sym}
use Rattle.pm_perm.specs.Cycles.{IsInCycle}
use Rattle.pm_pool.specs.Plane.{IsEdgeJoined, face_rule}
use Rattle.pm_pool.specs.Region.{IsLive}
use Rattle.pm_pool.proofs.EdgesMade.{edge-joined}
use Rattle.pm_pool.proofs.plane.PlaneDarts.join.Goals as goal

pub invariant_of-self : goal.invariant_of-self
invariant_of-self c =
    (edge-joined c.self.inside.pool _ _ _ c.self.invariant c.pair.ensures.valid (subst (λ r. IsLive r c.args.x) (sym c.self.view_is) c.requires.first)
    (subst (λ r. IsLive r c.args.y) (sym c.self.view_is) c.requires.second) c.requires.differ
    (subst (λ r. IsInCycle (face_rule r) c.args.x c.args.y) (sym c.self.view_is) c.requires.one_face) c.pair.ensures.paired).plane

pub returns : goal.returns
returns c =
    subst (λ r. IsEdgeJoined r c.pair.new.self c.args.x c.args.y) c.self.view_is
    (edge-joined c.self.inside.pool _ _ _ c.self.invariant c.pair.ensures.valid (subst (λ r. IsLive r c.args.x) (sym c.self.view_is) c.requires.first)
    (subst (λ r. IsLive r c.args.y) (sym c.self.view_is) c.requires.second) c.requires.differ
    (subst (λ r. IsInCycle (face_rule r) c.args.x c.args.y) (sym c.self.view_is) c.requires.one_face) c.pair.ensures.paired)
