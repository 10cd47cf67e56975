use Rattle.pm_close.proofs.RotationSteps.{IsRotated}
use Rattle.pm_close.proofs.rotation.rotation_of.Given as goal

abbrev pub invariant-loop-place : goal.invariant-loop-place
invariant-loop-place l = IsRotated l.darts l.across l.sigma.items l.place
