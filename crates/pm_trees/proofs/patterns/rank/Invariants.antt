use Rattle.pm_trees.proofs.Spelling.{IsSpelled}
use Rattle.pm_trees.proofs.patterns.rank.Given as goal

abbrev pub invariant-letters : goal.invariant-letters
invariant-letters l = IsSpelled l.letters l.letter-index l.left l.slots l.total l.before
