use Rattle.pm_planting.proofs.ReadingSteps.{IsReadFrom}
use Rattle.pm_planting.proofs.reading.kinds_of_tree.Given as goal

abbrev pub invariant-back : goal.invariant-back
invariant-back l = IsReadFrom l.letters l.place l.entries.items l.kinds.items
