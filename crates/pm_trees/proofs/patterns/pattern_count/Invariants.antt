use Rattle.pm_trees.proofs.Binomials.{IsCentral}
use Rattle.pm_trees.proofs.patterns.pattern_count.Given as goal

abbrev pub invariant-halves : goal.invariant-halves
invariant-halves l = IsCentral l.i l.count
