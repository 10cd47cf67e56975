-- What holds of a closure and its tree, for a map and its opening: the degrees, the edges and the levels.
use Rattle.std.proofs.Common.{◌≡◌, ℕ, ◌/◌, ◌<◌, List, length, refl, sym, ap, ◌∙◌, subst, arith}
use Rattle.std.specs.Prelude.{slice_index}
use Rattle.pm_perm.proofs.Permutations.{IsReached, reached}
use Rattle.pm_limits.specs.declared.TheConstants.{MAX_DEGREE}
use Rattle.pm_trees.specs.Word.{contour}
use Rattle.pm_trees.specs.Degrees.{nodes_of}
use Rattle.pm_trees.proofs.Tables.{degree_within}
use Rattle.pm_map.specs.declared.admitted.Degrees.TheVariants.{EvenUpTo}
use Rattle.pm_map.specs.Classes.{degree_of}
use Rattle.pm_map.specs.EdgeNumbers.{dart_of}
use Rattle.pm_map.specs.ClassRules.{AllAdmitted}
use Rattle.pm_map.specs.Rotation.{RotationSystem, IsRootedMap, structure_of}
use Rattle.pm_map.specs.FaceDistance.{IsFaceDistance}
use Rattle.pm_map.proofs.CarriedDegrees.{degrees_carried}
use Rattle.pm_map.proofs.DegreeCounts.{degree_counts_darts}
use Rattle.pm_map.proofs.DegreesTaken.{dart_takes}
use Rattle.pm_map.proofs.DistanceLemmas.{levels_are_distances, distances_are_carried}
use Rattle.pm_close.proofs.OneClosing.{one_level}
use Rattle.pm_close.proofs.ClosureStructure.{closure_structure}
use Rattle.pm_close.proofs.KeptDegrees.{kept}
use Rattle.pm_close.proofs.PlaneMap.{rooted_closure}
use Rattle.pm_open.specs.Laws.{LevelsAreFaceDistances, ClosedLevelsAreDistances, OpeningKeepsDegrees, OpeningKeepsEdges}
use Rattle.pm_open.specs.Opening.{IsOpening}
use Rattle.pm_open.proofs.TreeWalk.{tree_is_walked, tree_has_levels}

-- the levels of places are the distances of their faces
pub level_distances : LevelsAreFaceDistances
level_distances word tree balanced closure is p level l at =
    let levels = tree_has_levels word tree balanced in
    let walk = tree_is_walked word closure levels.0 tree balanced is levels.1 in
    let distances = (levels_are_distances closure levels.0 (closure_structure word closure tree is)).0 walk.0 in
    let here : IsFaceDistance closure closure.root p (levels.0 p) = distances p (omega (arith, is.darts, l)) in
    let same : levels.0 p ≡ level = one_level (contour word) p (levels.0 p) level (levels.1 p l) at in
    subst (λ root. IsFaceDistance closure root p level) is.root (subst (λ x. IsFaceDistance closure closure.root p x) same here)

-- so those of a closed tree are the distances of the faces of its map
pub closed_levels : ClosedLevelsAreDistances
closed_levels word closed tree is = record {
  as_long = is.levels.as_long ∙ sym is.is_closed.is_closure.darts ∙ is.is_closed.carries.darts;
  each = λ d l.
      let s = is.is_closed.closure in
      let structure = closure_structure word s tree is.is_closed.is_closure in
      let rooted = rooted_closure word closed.map tree is.balanced is.is_closed in
      let r : IsReached (dart_of s.twin) s.darts d = reached (dart_of s.twin) s.darts d is.is_closed.carries.renumbers (omega (arith, is.is_closed.carries.darts)) in
      let inside : r.from < length (contour word) = omega (arith, r.below, is.is_closed.is_closure.darts) in
      let root : dart_of s.twin 0 ≡ closed.map.root = ap (dart_of s.twin) (sym is.is_closed.is_closure.root) ∙ is.is_closed.carries.root (omega (arith, r.below)) in
      let on_places = level_distances word tree is.balanced s is.is_closed.is_closure r.from (slice_index closed.levels (dart_of s.twin r.from)) inside (is.levels.each r.from inside) in
      let carried = distances_are_carried s (structure_of closed.map) (dart_of s.twin) structure rooted.structure is.is_closed.carries 0 r.from
      (slice_index closed.levels (dart_of s.twin r.from)) (omega (arith, r.below)) r.below on_places in
      subst (λ (e : ℕ). IsFaceDistance (structure_of closed.map) closed.map.root e (slice_index closed.levels e)) r.value
      (subst (λ (e : ℕ). IsFaceDistance (structure_of closed.map) e (dart_of s.twin r.from) (slice_index closed.levels (dart_of s.twin r.from))) root carried);
}

-- of each degree there are as many vertices as nodes
pub kept_degrees : OpeningKeepsDegrees
kept_degrees map word valid is degree =
    let rooted = rooted_closure word is.closure is.blossoming is.balanced is.is_closure in
    sym (degrees_carried (structure_of map) (structure_of is.closure) valid.structure rooted.structure is.same degree)
    ∙ (kept word is.closure is.blossoming is.balanced is.is_closure).counts degree

-- so a map that has an opening has even degrees within the limit
pub opened_degrees : (map : RotationSystem) (word : List ℕ) → IsRootedMap map → IsOpening map word → AllAdmitted (structure_of map) (EvenUpTo MAX_DEGREE)
opened_degrees map word valid is d l =
    let degree = degree_of (structure_of map) d in
    let some : 0 < nodes_of word degree = subst (λ (n : ℕ). 0 < n) (kept_degrees map word valid is degree) (dart_takes (structure_of map) d valid.structure l) in
    let within = degree_within word degree is.blossoming some in
    record { degree = degree; counted = (degree_counts_darts (structure_of map) d degree valid.structure l).1 refl; admitted = (within.even, within.few) }

-- the map has as many darts as its opening has places, and so some
darts_are_places : (map : RotationSystem) (word : List ℕ) → IsOpening map word → length (contour word) ≡ length map.sigma
darts_are_places map word is = sym is.is_closure.is_closure.darts ∙ is.is_closure.carries.darts ∙ sym is.same.1.darts

pub opened_dart : (map : RotationSystem) (word : List ℕ) → IsOpening map word → 0 < length map.sigma
opened_dart map word is = omega (arith, darts_are_places map word is)

-- and as many edges are counted in both
pub kept_edges : OpeningKeepsEdges
kept_edges map word is = ap (λ (n : ℕ). n / 2) (darts_are_places map word is)
