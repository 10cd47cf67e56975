use Rattle.pm_general.proofs.BipartiteClass.{bipartite_is_exchanged}
use Rattle.pm_general.proofs.bipartite.BipartiteSampledThrough.is_exchanged.Goals as goal

pub returns : goal.returns
returns c pairs is = bipartite_is_exchanged pairs
