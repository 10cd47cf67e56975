use Rattle.std.proofs.Common.{rules}
use Rattle.pm_perm.proofs.Parted.{cycles-exchange_apart}
use Rattle.pm_perm.proofs.exchanging.exchange.Goals as goal

pub returns-clause-count : goal.returns-clause-count
returns-clause-count c = cycles-exchange_apart _ _ _ _ _ c.requires.permutation c.requires.first_inside c.requires.second_inside (search rules) c.requires.differ
