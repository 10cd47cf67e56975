use Rattle.pm_trees.proofs.PairRules.{IsSummed}
use Rattle.pm_trees.proofs.pairs.degree_sum.Given as goal

abbrev pub invariant-pairs : goal.invariant-pairs
invariant-pairs l = IsSummed l.pairs l.sum l.i
