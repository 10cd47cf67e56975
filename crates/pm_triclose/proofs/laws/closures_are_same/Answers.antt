use Rattle.pm_triclose.proofs.SameClosures.{closures_same}
use Rattle.pm_triclose.proofs.laws.closures_are_same.Goals as goal

pub returns : goal.returns
returns c = closures_same
