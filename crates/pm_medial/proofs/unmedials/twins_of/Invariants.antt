use Rattle.pm_medial.proofs.HalfSteps.{AreEdgesBelow}
use Rattle.pm_medial.proofs.unmedials.twins_of.Given as goal

abbrev pub invariant-edges : goal.invariant-edges
invariant-edges l = AreEdgesBelow l.map l.colours l.twins.items l.edge
