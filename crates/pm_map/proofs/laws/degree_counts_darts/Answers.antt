-- The clause is the law of degrees.
use Rattle.pm_map.proofs.DegreeCounts.{degree_counts_darts}
use Rattle.pm_map.proofs.laws.degree_counts_darts.Goals as goal

pub returns : goal.returns
returns c = degree_counts_darts
