use Rattle.std.proofs.Common.{subst}
use Rattle.pm_trees.specs.Word.{contour}
use Rattle.pm_trees.proofs.PlantedAt.{anew_from, plant_is_marked}
use Rattle.pm_brackets.proofs.PlantedAt.{chosen_is}
use Rattle.pm_trees.proofs.LeafTurns.{leaf_few}
use Rattle.pm_match.specs.Pair.{IsFree}
use Rattle.pm_match.proofs.FreeMarks.{free_marks}
use Rattle.pm_euler.specs.PlantedAnew.{IsPlantedAnew}
use Rattle.pm_euler.proofs.FreeLeaves.{free_leaf_inside, free_leaf_numbered, old_number}
use Rattle.pm_euler.proofs.anew.plant_anew.Goals as goal

pub leaves_before-leaf-requires : goal.leaves_before-leaf-requires
leaves_before-leaf-requires c = free_leaf_inside c.args.tree.now c.args.free c.free_leaf-place.result c.free_leaf-place.ensures

pub replant-requires : goal.replant-requires
replant-requires c =
    let numbered = free_leaf_numbered (contour c.args.tree.now) c.args.free c.free_leaf-place.result c.leaves_before-leaf.result c.free_leaf-place.ensures c.leaves_before-leaf.ensures in
    leaf_few (contour c.args.tree.now) c.leaves_before-leaf.result c.free_leaf-place.result numbered

pub returns-clause-anew : goal.returns-clause-anew
returns-clause-anew c =
    let numbered = free_leaf_numbered (contour c.args.tree.now) c.args.free c.free_leaf-place.result c.leaves_before-leaf.result c.free_leaf-place.ensures c.leaves_before-leaf.ensures in
    let number = old_number c.args.tree.now c.leaves_before-leaf.result c.leaves-leaves.result c.leaves-leaves.result c.leaves-leaves.ensures c.leaves-leaves.ensures in
    subst (IsPlantedAnew c.args.tree.now c.args.free c.in_ok-replanted.replanted) number
    (anew_from IsFree c.args.tree.now c.args.free c.leaves_before-leaf.result c.free_leaf-place.result c.in_ok-replanted.replanted c.letters-letters.ensures.valid c.free_leaf-place.ensures numbered c.in_ok-replanted.ensures.replanted)

pub returns-clause-balanced : goal.returns-clause-balanced
returns-clause-balanced c =
    let numbered = free_leaf_numbered (contour c.args.tree.now) c.args.free c.free_leaf-place.result c.leaves_before-leaf.result c.free_leaf-place.ensures c.leaves_before-leaf.ensures in
    plant_is_marked IsFree free_marks c.args.tree.now c.leaves_before-leaf.result c.free_leaf-place.result c.in_ok-replanted.replanted c.letters-letters.ensures.valid
    (chosen_is (IsFree (contour c.args.tree.now)) c.args.free c.free_leaf-place.result c.free_leaf-place.ensures) numbered c.in_ok-replanted.ensures.replanted
