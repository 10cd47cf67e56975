-- The clauses are the laws of face distances.
use Rattle.pm_map.proofs.DistanceLemmas.{levels_are_distances, distances_are_carried}
use Rattle.pm_map.proofs.DistancesBack.{distance_is_symmetric}
use Rattle.pm_map.proofs.DistanceRounds.{each_face_has_distance}
use Rattle.pm_map.proofs.laws.face_levels_are_distances.Goals as goal

pub returns-clause-levels : goal.returns-clause-levels
returns-clause-levels c = levels_are_distances

pub returns-clause-each : goal.returns-clause-each
returns-clause-each c = each_face_has_distance

pub returns-clause-carried : goal.returns-clause-carried
returns-clause-carried c = distances_are_carried

pub returns-clause-symmetric : goal.returns-clause-symmetric
returns-clause-symmetric c = distance_is_symmetric
