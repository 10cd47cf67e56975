use Rattle.pm_perm.proofs.CycleLists.{cycle-left, cycle-splits, cycles-join}
use Rattle.pm_perm.proofs.laws.exchange_splits_or_joins_lists.Goals as goal

pub returns-clause-splits : goal.returns-clause-splits
returns-clause-splits c = cycle-splits

pub returns-clause-joins : goal.returns-clause-joins
returns-clause-joins c = cycles-join

pub returns-clause-leaves : goal.returns-clause-leaves
returns-clause-leaves c = cycle-left
