use Rattle.pm_reach.proofs.NumberSums.{sum_is_product}
use Rattle.pm_reach.proofs.laws.census_counts_lists.Goals as goal

pub returns : goal.returns
returns g c = λ size entries is census. sum_is_product (g.C.MapClass.choice_limits size) (g.C.MapClass.samples size) entries census
