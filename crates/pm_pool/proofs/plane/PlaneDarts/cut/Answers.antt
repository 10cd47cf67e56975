use Rattle.std.proofs.Common.{◌≢◌, slice_index, subst, sym}
use Rattle.pm_perm.specs.Cycles.{IsInCycle}
use Rattle.pm_pool.specs.Plane.{IsEdgeCut, face_rule}
use Rattle.pm_pool.specs.Region.{IsLive, Region}
use Rattle.pm_pool.proofs.EdgesMade.{edge-cut}
use Rattle.pm_pool.proofs.Regions.{live-twin}
use Rattle.pm_pool.proofs.plane.PlaneDarts.cut.Goals as goal

pub part-requires-clause-no_stem : goal.part-requires-clause-no_stem
part-requires-clause-no_stem c =
    subst (λ (r : Region). slice_index r.twin c.args.x ≢ c.args.x) (sym c.self.view_is) (λ same. c.requires.two_faces (record { steps = 0; leads = sym same }))

pub invariant_of-self : goal.invariant_of-self
invariant_of-self c =
    let live : IsLive c.self.inside.pool c.args.x = subst (λ r. IsLive r c.args.x) (sym c.self.view_is) c.requires.live in
    (edge-cut c.self.inside.pool _ _ _ c.self.invariant c.part.ensures.valid live (live-twin c.self.inside.pool c.args.x c.self.invariant.region live)
    (subst (λ (r : Region). IsInCycle (face_rule r) c.args.x (slice_index r.twin c.args.x) → ⊥) (sym c.self.view_is) c.requires.two_faces) c.part.ensures.parted).plane

pub returns : goal.returns
returns c =
    let live : IsLive c.self.inside.pool c.args.x = subst (λ r. IsLive r c.args.x) (sym c.self.view_is) c.requires.live in
    subst (λ (r : Region). IsEdgeCut r c.part.new.self c.args.x (slice_index r.twin c.args.x)) c.self.view_is
    (edge-cut c.self.inside.pool _ _ _ c.self.invariant c.part.ensures.valid live (live-twin c.self.inside.pool c.args.x c.self.invariant.region live)
    (subst (λ (r : Region). IsInCycle (face_rule r) c.args.x (slice_index r.twin c.args.x) → ⊥) (sym c.self.view_is) c.requires.two_faces) c.part.ensures.parted)
