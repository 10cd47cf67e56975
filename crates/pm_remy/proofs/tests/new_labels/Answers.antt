use Rattle.pm_remy.specs.Tree.{leaf, fork}
use Rattle.pm_remy.proofs.Reading.{shape-tree}
use Rattle.pm_remy.proofs.tests.new_labels.Goals as goal

pub tree_of_shape-requires-clause-shape : goal.tree_of_shape-requires-clause-shape
tree_of_shape-requires-clause-shape g c = shape-tree (fork (leaf 0) (leaf 0))
