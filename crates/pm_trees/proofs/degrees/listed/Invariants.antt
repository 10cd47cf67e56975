use Rattle.pm_trees.proofs.Listing.{AreListedBelow}
use Rattle.pm_trees.proofs.degrees.listed.Given as goal

abbrev pub invariant-counts : goal.invariant-counts
invariant-counts l = AreListedBelow l.counts l.pairs.items l.degree
