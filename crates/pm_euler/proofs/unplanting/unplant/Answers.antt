use Rattle.std.proofs.Common.{ℕ, sym, subst}
use Rattle.pm_trees.specs.Word.{contour}
use Rattle.pm_trees.specs.Leaves.{IsLeafAt}
use Rattle.pm_trees.proofs.Replants.{replanting_undone}
use Rattle.pm_euler.proofs.FreeLeaves.{old_number}
use Rattle.pm_euler.proofs.SomeUnplanting.{plant_is_free, unplanted_from}
use Rattle.pm_euler.proofs.unplanting.unplant.Goals as goal

pub number_of_free-free-requires : goal.number_of_free-free-requires
number_of_free-free-requires c = λ place numbered.
    let number = old_number c.in_ok-opening.opening c.args.old_plant c.leaves-leaves.result c.leaves-leaves.result c.leaves-leaves.ensures c.leaves-leaves.ensures in
    plant_is_free c.in_ok-opening.opening c.args.old_plant c.in_ok-tree.tree place c.in_ok-opening.ensures.blossoming c.in_ok-opening.ensures.balanced c.in_ok-tree.ensures.replanted
    (subst (λ (k : ℕ). IsLeafAt (contour c.in_ok-tree.tree) k place) (sym number) numbered)

pub returns : goal.returns
returns c =
    let number = old_number c.in_ok-opening.opening c.args.old_plant c.leaves-leaves.result c.leaves-leaves.result c.leaves-leaves.ensures c.leaves-leaves.ensures in
    let undone = replanting_undone c.in_ok-opening.opening c.args.old_plant c.in_ok-tree.tree c.in_ok-opening.ensures.blossoming c.in_ok-tree.ensures.replanted in
    unplanted_from c.args.map.now c.in_ok-opening.opening c.args.old_plant c.in_ok-tree.tree c.number_of_free-free.result undone.start c.in_ok-opening.ensures
    (c.requires.leaf c.in_ok-opening.opening c.in_ok-opening.ensures) c.in_ok-tree.ensures.replanted undone.is_start
    (c.number_of_free-free.ensures.free undone.start (subst (λ (k : ℕ). IsLeafAt (contour c.in_ok-tree.tree) k undone.start) number undone.is_start)) c.number_of_free-free.ensures.few
