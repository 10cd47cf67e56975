use Rattle.pm_trees.proofs.Tables.{IsTallied}
use Rattle.pm_trees.proofs.degrees.degree_counts.Given as goal

abbrev pub invariant-letters : goal.invariant-letters
invariant-letters l = IsTallied l.word l.counts.items l.parents.items l.entries l.letter-index
