use Rattle.pm_medial.specs.steps.Written.{IsDualRotation}
use Rattle.pm_medial.proofs.duals.dual.Given as goal

abbrev pub invariant-darts : goal.invariant-darts
invariant-darts l = IsDualRotation l.map.sigma l.rotation.items l.dart
