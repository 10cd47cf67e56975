use Rattle.pm_open.proofs.KeptByOpening.{kept_degrees, kept_edges}
use Rattle.pm_open.proofs.laws.openings_keep_degrees.Goals as goal

pub returns-clause-degrees : goal.returns-clause-degrees
returns-clause-degrees c = kept_degrees

pub returns-clause-edges : goal.returns-clause-edges
returns-clause-edges c = kept_edges
