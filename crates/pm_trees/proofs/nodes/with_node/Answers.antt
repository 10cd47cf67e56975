use Rattle.pm_brackets.proofs.Least.{noted_from_test}
use Rattle.pm_trees.proofs.nodes.with_node.Goals as goal

pub returns-clause-degree : goal.returns-clause-degree
returns-clause-degree c = noted_from_test _ _ _ _ _ c.has_degree.ensures c.noted.ensures

pub returns-clause-buds : goal.returns-clause-buds
returns-clause-buds c = noted_from_test _ _ _ _ _ c.has_buds.ensures c.noted-2.ensures
