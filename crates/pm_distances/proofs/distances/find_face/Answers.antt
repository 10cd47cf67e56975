use Rattle.std.proofs.Common.{rules, arith}
use Rattle.pm_perm.proofs.Walks.{unmarked-falls}
use Rattle.pm_distances.proofs.FaceSearch.{WritesFace-step}
use Rattle.pm_distances.proofs.distances.find_face.Goals as goal

pub walk-smaller : goal.walk-smaller
walk-smaller c = unmarked-falls _ _ _ c.walk.invariant.walk.within (omega (arith, c.walk.invariant.walk.within, c.walk.invariant.walk.size, c.requires.found_size)) (search rules)

pub walk-preserved : goal.walk-preserved
walk-preserved c =
    rw c.in_ok-push.ensures.items
    (rw c.face_next-dart.ensures (WritesFace-step _ _ _ _ _ _ _ _ _ _ c.requires.map.even c.requires.map.structure.rotation c.requires.found_size c.requires.distances_size c.walk.invariant (search rules)))
