-- A map has no two openings: their closures are the same, and numbered along the walk.
use Rattle.std.proofs.Common.{◌≡◌, ℕ, List}
use Rattle.pm_trees.specs.Word.{contour}
use Rattle.pm_trees.specs.Blossoming.{IsBlossoming}
use Rattle.pm_match.specs.Pair.{IsBalanced}
use Rattle.pm_map.specs.Structure.{Structure, IsStructure, Same}
use Rattle.pm_map.specs.Rotation.{RotationSystem, structure_of}
use Rattle.pm_map.proofs.SameMaps.{same_symmetric, same_transitive}
use Rattle.pm_close.specs.Closure.{IsClosure}
use Rattle.pm_map.specs.EdgeNumbers.{dart_of}
use Rattle.pm_close.proofs.ClosureStructure.{closure_structure}
use Rattle.pm_open.specs.Laws.{HasOneOpening}
use Rattle.pm_open.specs.Opening.{IsOpening}
use Rattle.pm_open.proofs.TreeWalk.{tree_is_walked, tree_has_levels}
use Rattle.pm_distances.proofs.SameLevels.{levels_carried}
use Rattle.pm_open.proofs.UniqueWalk.{spelled_is_one}

-- balanced trees whose closures on places are the same are one tree
pub closures_tell_trees : (one other : List ℕ) (a b : Structure) → IsBlossoming one → IsBlossoming other → IsBalanced (contour one) → IsBalanced (contour other)
    → IsClosure (contour one) a → IsClosure (contour other) b → Same a b → one ≡ other
closures_tell_trees one other a b one_tree other_tree one_balanced other_balanced is_a is_b same =
    let one_levels = tree_has_levels one one_tree one_balanced in
    let other_levels = tree_has_levels other other_tree other_balanced in
    let one_walk = tree_is_walked one a one_levels.0 one_tree one_balanced is_a one_levels.1 in
    let other_walk = tree_is_walked other b other_levels.0 other_tree other_balanced is_b other_levels.1 in
    let structure_a = closure_structure one a one_tree is_a in
    let structure_b = closure_structure other b other_tree is_b in
    let kept = levels_carried a b one_levels.0 other_levels.0 same.0 structure_a structure_b same.1 one_walk.0 other_walk.0 in
    word_of one other
    (spelled_is_one a b one_levels.0 other_levels.0 same.0 (contour one) (contour other) structure_a same.1 kept one_walk.1 other_walk.1 one_walk.2 other_walk.2) where
      word_of : (one other : List ℕ) → contour one ≡ contour other → one ≡ other
      word_of one other e = cc

-- the closure on places of an opening is the same as the map
same_as_map : (map : RotationSystem) (word : List ℕ) → IsStructure (structure_of map) → (is : IsOpening map word) → Same is.is_closure.closure (structure_of map)
same_as_map map word structure is =
    same_transitive is.is_closure.closure (structure_of is.closure) (structure_of map)
    (dart_of is.is_closure.closure.twin, is.is_closure.carries)
    (same_symmetric (structure_of map) (structure_of is.closure) structure is.same)

-- a rooted map has no two openings
pub one_opening : HasOneOpening
one_opening map one other valid is_one is_other =
    let a = is_one.is_closure in
    let b = is_other.is_closure in
    let from_map = same_symmetric b.closure (structure_of map) (closure_structure other b.closure is_other.blossoming b.is_closure) (same_as_map map other valid.structure is_other) in
    closures_tell_trees one other a.closure b.closure is_one.blossoming is_other.blossoming is_one.balanced is_other.balanced a.is_closure b.is_closure
    (same_transitive a.closure (structure_of map) b.closure (same_as_map map one valid.structure is_one) from_map)
