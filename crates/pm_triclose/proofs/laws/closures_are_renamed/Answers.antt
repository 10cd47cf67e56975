use Rattle.pm_triclose.proofs.RenamedClosures.{closures_renamed}
use Rattle.pm_triclose.proofs.laws.closures_are_renamed.Goals as goal

pub returns : goal.returns
returns c = closures_renamed
