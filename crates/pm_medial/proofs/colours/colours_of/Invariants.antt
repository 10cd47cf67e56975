use Rattle.pm_medial.proofs.HalfSteps.{IsColouredBelow}
use Rattle.pm_medial.proofs.colours.colours_of.Given as goal

abbrev pub invariant-darts : goal.invariant-darts
invariant-darts l = IsColouredBelow l.distances.items l.colours.items l.dart
