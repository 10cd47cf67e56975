use Rattle.pm_close.proofs.KeptDegrees.{kept}
use Rattle.pm_close.proofs.laws.degrees_are_kept.Goals as goal

pub returns : goal.returns
returns c = kept
