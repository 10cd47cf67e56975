use Rattle.pm_medial.specs.steps.Written.{IsMedialRotation}
use Rattle.pm_medial.proofs.medials.write_rotation.Given as goal

abbrev pub invariant-darts : goal.invariant-darts
invariant-darts l = IsMedialRotation l.map.sigma l.rotation l.dart
