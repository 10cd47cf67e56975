use Rattle.pm_triclose.proofs.SimpleClosures.{closures_simple, closures_triangulations}
use Rattle.pm_triclose.proofs.laws.closures_are_simple.Goals as goal

pub returns : goal.returns
returns c = record { simple = closures_simple; triangulations = closures_triangulations }
