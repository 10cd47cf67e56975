use Rattle.std.proofs.Common.{not, false, length, get_or}
use Rattle.pm_perm.specs.Count.{count_below}
use Rattle.pm_distances.specs.steps.DistanceSearch.{WritesFace}
use Rattle.pm_distances.proofs.distances.find_face.Given as goal

abbrev pub invariant-walk : goal.invariant-walk
invariant-walk l = WritesFace l.map.sigma l.start l.distance l.dart l.fn.found l.fn.distances l.fn.darts.items l.found l.distances l.darts.items

abbrev pub decreases-walk : goal.decreases-walk
decreases-walk l = count_below (λ k. not (get_or l.found k false)) (length l.map.sigma)
