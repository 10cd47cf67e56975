use Rattle.pm_perm.proofs.Parted.{cycles-exchange}
use Rattle.pm_perm.proofs.laws.exchange_splits_or_joins.Goals as goal

pub returns : goal.returns
returns c = cycles-exchange
