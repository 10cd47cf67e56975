use Rattle.pm_match.proofs.PairTurns.{pairs_turned, free_leaves_turned, free_leaf_balances}
use Rattle.pm_match.proofs.laws.pairs_are_turned.Goals as goal

pub returns : goal.returns
returns c = record { pairs = pairs_turned; free = free_leaves_turned; balanced = free_leaf_balances }
