use Rattle.std.proofs.Common.{map}
use Rattle.pm_mapfile.specs.steps.Rotation.{told_dart}
use Rattle.pm_mapfile.proofs.RotationLemmas.{IsTelling}
use Rattle.pm_mapfile.proofs.rotation.least_untold.Given as goal

abbrev pub invariant-darts : goal.invariant-darts
invariant-darts l = IsTelling (map told_dart l.followers) l.followers l.dart
