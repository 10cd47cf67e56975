use Rattle.pm_medial.proofs.UnmedialLaws.{unmedial_of_medial, medial_of_unmedial, each_quartic_has_unmedial, only_quartic_have_unmedial, unmedials_tell, unmedial_counts}
use Rattle.pm_medial.proofs.laws.unmedial_undoes_medial.Goals as goal

pub returns-clause-unmedial_of_medial : goal.returns-clause-unmedial_of_medial
returns-clause-unmedial_of_medial c = unmedial_of_medial

pub returns-clause-medial_of_unmedial : goal.returns-clause-medial_of_unmedial
returns-clause-medial_of_unmedial c = medial_of_unmedial

pub returns-clause-exists : goal.returns-clause-exists
returns-clause-exists c = each_quartic_has_unmedial

pub returns-clause-only : goal.returns-clause-only
returns-clause-only c = only_quartic_have_unmedial

pub returns-clause-tells : goal.returns-clause-tells
returns-clause-tells c = unmedials_tell

pub returns-clause-counts : goal.returns-clause-counts
returns-clause-counts c = unmedial_counts
