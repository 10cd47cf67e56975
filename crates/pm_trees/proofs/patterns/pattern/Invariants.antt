use Rattle.pm_trees.proofs.Spelling.{IsWriting}
use Rattle.pm_trees.proofs.patterns.pattern.Given as goal

abbrev pub invariant-letters : goal.invariant-letters
invariant-letters l = IsWriting l.half l.rank l.out l.letter-index l.left l.slots l.total l.rest
