use Rattle.pm_perm.proofs.PartPairs.{cycles-pairs_at_most}
use Rattle.pm_perm.proofs.laws.pairs_split_at_most.Goals as goal

pub returns : goal.returns
returns c = cycles-pairs_at_most
