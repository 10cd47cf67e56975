use Rattle.pm_mapfile.proofs.RotationLemmas.{first_untold}
use Rattle.pm_mapfile.proofs.rotation.least_untold.Goals as goal

pub returns-then-followers-dart : goal.returns-then-followers-dart
returns-then-followers-dart c = first_untold c.args.followers.now c.darts.dart c.darts.invariant c.darts-test.true c.if-followers-dart.true
