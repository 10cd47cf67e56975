use Rattle.std.proofs.Common.{ℕ, List, length, Some, sym, subst}
use Rattle.pm_map.specs.declared.degrees.Around.TheVariants.{Face}
use Rattle.pm_map.specs.steps.Sizes.{step_around}
use Rattle.pm_map.specs.FaceWalk.{until, IsFaceWalk, IsFaceFrom}
use Rattle.pm_map.specs.Rotation.{structure_of}
use Rattle.pm_map.specs.Structure.{dual}
use Rattle.pm_map.proofs.CarriedStructure.{face_permutes}
use Rattle.pm_map.proofs.FaceWalkLemmas.{IsFaceWalk-begins, until-vertex}
use Rattle.pm_map.proofs.rooted_map.RootedMap.face_walk.Goals as goal

pub invariant_of-result : goal.invariant_of-result
invariant_of-result c =
    subst (λ (sigma : List ℕ). IsFaceWalk sigma c.args.d (Some c.args.d)) (sym c.sigma.ensures.sigma)
    (IsFaceWalk-begins c.args.self.now.sigma c.args.d c.sigma.ensures.valid.even (face_permutes (structure_of c.args.self.now) c.sigma.ensures.valid.structure) c.requires)

pub returns : goal.returns
returns c =
    let s = structure_of c.args.self.now in
    subst (λ (sigma : List ℕ). IsFaceFrom s c.args.d (until (step_around sigma Face) c.args.d (length sigma) c.args.d)) (sym c.sigma.ensures.sigma)
    (until-vertex (dual s) c.args.d (face_permutes s c.sigma.ensures.valid.structure) c.requires)
