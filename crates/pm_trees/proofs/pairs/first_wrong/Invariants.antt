use Rattle.pm_trees.proofs.PairRules.{AreRightBelow}
use Rattle.pm_trees.proofs.pairs.first_wrong.Given as goal

abbrev pub invariant-pairs : goal.invariant-pairs
invariant-pairs l = AreRightBelow l.pairs l.before l.i
