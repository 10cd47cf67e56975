use Rattle.pm_trees.specs.Word.{contour}
use Rattle.pm_euler.proofs.FreeLeaves.{first_chosen, second_chosen}
use Rattle.pm_euler.proofs.anew.free_leaf.Goals as goal

pub returns-then-free-eq0 : goal.returns-then-free-eq0
returns-then-free-eq0 c = first_chosen (contour c.args.tree.now) _ _ c.args.free c.free_leaves-first.ensures c.if-free-eq0.true

pub returns-else-free-eq0 : goal.returns-else-free-eq0
returns-else-free-eq0 c = second_chosen (contour c.args.tree.now) _ _ c.args.free c.free_leaves-first.ensures c.requires c.if-free-eq0.false
