use Rattle.pm_map.specs.Rotation.{structure_of}
use Rattle.pm_reach.specs.steps.Telling.{IsTelling}
use Rattle.pm_reach.proofs.layering.tell_faces.Given as goal

abbrev pub invariant-darts : goal.invariant-darts
invariant-darts l = IsTelling (structure_of l.map) l.told l.parents l.dart
