use Rattle.pm_euler.proofs.QuarticTrees.{AreWritten}
use Rattle.pm_euler.proofs.planting.kinds_of_shape.Given as goal

abbrev pub invariant-nodes : goal.invariant-nodes
invariant-nodes l = AreWritten l.nodes l.ranks l.kinds.items l.next l.node-index
