use Rattle.pm_walk.proofs.NestedEdges.{walked_nested}
use Rattle.pm_walk.proofs.laws.walked_edges_are_nested.Goals as goal

pub returns : goal.returns
returns c = walked_nested
