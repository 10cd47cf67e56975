use Rattle.pm_open.proofs.KeptByOpening.{closed_levels}
use Rattle.pm_open.proofs.laws.levels_are_face_distances.Goals as goal

pub returns-clause-closed : goal.returns-clause-closed
returns-clause-closed c = closed_levels
