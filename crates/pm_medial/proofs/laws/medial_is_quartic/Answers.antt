use Rattle.pm_medial.proofs.MedialCounts.{medial_counts, medial_is_quartic}
use Rattle.pm_medial.proofs.MedialSame.{medials_tell}
use Rattle.pm_medial.proofs.laws.medial_is_quartic.Goals as goal

pub returns-clause-quartic : goal.returns-clause-quartic
returns-clause-quartic c = medial_is_quartic

pub returns-clause-counts : goal.returns-clause-counts
returns-clause-counts c = medial_counts

pub returns-clause-tells : goal.returns-clause-tells
returns-clause-tells c = medials_tell
