use Rattle.pm_medial.specs.steps.Halved.{IsHalfRotation}
use Rattle.pm_medial.proofs.unmedials.write_rotation.Given as goal

abbrev pub invariant-edges : goal.invariant-edges
invariant-edges l = IsHalfRotation l.map l.colours l.darts l.rotation l.edge
