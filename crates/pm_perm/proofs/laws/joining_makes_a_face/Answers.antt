use Rattle.pm_perm.proofs.PartMaps.{join-law, join-splits_face, other-faces_stay}
use Rattle.pm_perm.proofs.laws.joining_makes_a_face.Goals as goal

pub returns-clause-counts : goal.returns-clause-counts
returns-clause-counts c = join-law

pub returns-clause-faces : goal.returns-clause-faces
returns-clause-faces c = join-splits_face

pub returns-clause-others : goal.returns-clause-others
returns-clause-others c = other-faces_stay
