use Rattle.pm_euler.proofs.QuarticTrees.{AreRead}
use Rattle.pm_euler.proofs.shape_reading.shape_and_ranks.Given as goal

abbrev pub invariant-kinds : goal.invariant-kinds
invariant-kinds l = AreRead l.kind-items l.nodes.items l.ranks.items l.kind-index
