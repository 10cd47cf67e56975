use Rattle.pm_triclose.proofs.WholeClosures.{closures_whole}
use Rattle.pm_triclose.proofs.laws.closures_are_whole.Goals as goal

pub returns : goal.returns
returns c = closures_whole
