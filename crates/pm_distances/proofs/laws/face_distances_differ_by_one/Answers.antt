use Rattle.pm_distances.proofs.OneApart.{differ_by_one}
use Rattle.pm_distances.proofs.laws.face_distances_differ_by_one.Goals as goal

pub returns : goal.returns
returns c = differ_by_one
