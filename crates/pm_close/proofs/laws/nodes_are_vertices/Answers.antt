use Rattle.pm_close.proofs.NodeVertices.{node_vertices}
use Rattle.pm_close.proofs.laws.nodes_are_vertices.Goals as goal

pub returns : goal.returns
returns c = node_vertices
