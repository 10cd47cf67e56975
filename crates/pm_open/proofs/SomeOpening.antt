-- A map with even degrees has an opening: what the walk over its darts spells.
use Rattle.std.proofs.Common.{◌≡◌, ℕ, ◌<◌, ◌≤◌, ◌*◌, List, length, subst, arith}
use Rattle.pm_limits.specs.declared.TheConstants.{MAX_DEGREE, MAX_EDGES}
use Rattle.pm_trees.specs.Node.{IsDegree}
use Rattle.pm_trees.specs.Word.{contour}
use Rattle.pm_map.specs.declared.admitted.Degrees.TheVariants.{EvenUpTo}
use Rattle.pm_map.specs.Structure.{Structure, Same}
use Rattle.pm_map.specs.Rotation.{RotationSystem, IsRootedMap, structure_of}
use Rattle.pm_map.specs.FaceDistance.{AreFaceLevels}
use Rattle.pm_map.specs.ClassRules.{AllAdmitted}
use Rattle.pm_map.proofs.CarriedStructure.{euler_carried}
use Rattle.pm_map.proofs.DegreeRules.{cycle_size_is_unique}
use Rattle.pm_map.proofs.DistanceLemmas.{levels_are_distances}
use Rattle.pm_map.proofs.DistanceRounds.{each_face_has_distance}
use Rattle.pm_map.proofs.SameMaps.{same_transitive}
use Rattle.pm_map.specs.EdgeNumbers.{dart_of}
use Rattle.pm_close.proofs.OneClosure.{closures_same}
use Rattle.pm_close.proofs.RootedClosure.{has_across}
use Rattle.pm_close.proofs.SomeClosure.{each_tree_closes}
use Rattle.pm_open.specs.Opening.{IsOpening}
use Rattle.pm_open.specs.Laws.{EachMapOpens}
use Rattle.pm_distances.proofs.EachDegree.{each_degree_carried}
use Rattle.pm_open.proofs.EvenDegrees.{HasEvenDegrees}
use Rattle.pm_open.proofs.Letters.{IsSpelled}
use Rattle.pm_distances.proofs.Walks.{IsWalked, each_map_is_walked}
use Rattle.pm_open.proofs.OpenedWalk.{opened}
use Rattle.pm_open.proofs.Spelled.{spells_a_word, spells_a_tree}

-- what the walk over the darts of a map spells is its opening
pub opening_of_walk : (map : RotationSystem) (level : ℕ → ℕ) (w : IsWalked (structure_of map) level) (word : List ℕ) → IsRootedMap map → 0 < length map.sigma
    → HasEvenDegrees (structure_of map) → AreFaceLevels (structure_of map) level → IsSpelled w.walked w.walked_level (contour word) → IsOpening map word
opening_of_walk map level w word valid some even levels spelled =
    let s : Structure = structure_of map in
    let some_walked : 0 < w.walked.darts = omega (arith, w.carries.darts, some) in
    let few : w.walked.darts ≤ 2 * MAX_EDGES = subst (λ n. n ≤ 2 * MAX_EDGES) w.carries.darts valid.few in
    let even_walked : HasEvenDegrees w.walked = each_degree_carried IsDegree w.rename s w.walked valid.structure w.structure w.carries even in
    let euler = euler_carried w.rename s w.walked valid.structure w.structure w.carries valid.euler in
    let is_opened = opened w.walked w.walked_level w.structure some_walked euler w.levels w.in_order (λ d degree h size. (even_walked d degree h size).even) in
    let tree = spells_a_tree w.walked w.walked_level word w.structure some_walked few even_walked w.levels w.in_order is_opened spelled in
    let closed = each_tree_closes word tree.0 in
    let on_places : Same w.walked closed.1.closure = closures_same (contour word) w.walked closed.1.closure (has_across word tree.0) tree.2 closed.1.is_closure in
    record {
      blossoming = tree.0;
      balanced = tree.1;
      closure = closed.0;
      is_closure = closed.1;
      same =
          same_transitive s w.walked (structure_of closed.0) (w.rename, w.carries)
          (same_transitive w.walked closed.1.closure (structure_of closed.0) on_places (dart_of closed.1.closure.twin, closed.1.carries));
    }

-- where each degree is admitted, the degrees are even
pub even_degrees : (s : Structure) → AllAdmitted s (EvenUpTo MAX_DEGREE) → HasEvenDegrees s
even_degrees s all d degree l size =
    let has = all d l in
    let one : has.degree ≡ degree = cycle_size_is_unique s.next d has.degree degree has.counted size in
    subst IsDegree one (record { even = has.admitted.0; few = has.admitted.1 })

-- a rooted map with a dart and even degrees has an opening
pub each_map_opens : EachMapOpens
each_map_opens map valid some all =
    let s : Structure = structure_of map in
    let distances = each_face_has_distance s valid.structure valid.connected in
    let levels : AreFaceLevels s distances.0 = (levels_are_distances s distances.0 valid.structure).1 distances.1 in
    let w : IsWalked s distances.0 = each_map_is_walked s distances.0 valid.structure some levels in
    let word = spells_a_word w.walked w.walked_level (omega (arith, w.carries.darts, some)) in
    (word.0, opening_of_walk map distances.0 w word.0 valid some (even_degrees s all) levels word.1)
