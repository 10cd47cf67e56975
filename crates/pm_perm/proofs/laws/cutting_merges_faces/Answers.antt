use Rattle.pm_perm.proofs.PartMaps.{cut-law, cut-merges_faces, other-faces_stay}
use Rattle.pm_perm.proofs.laws.cutting_merges_faces.Goals as goal

pub returns-clause-counts : goal.returns-clause-counts
returns-clause-counts c = cut-law

pub returns-clause-faces : goal.returns-clause-faces
returns-clause-faces c = cut-merges_faces

pub returns-clause-others : goal.returns-clause-others
returns-clause-others c = other-faces_stay
