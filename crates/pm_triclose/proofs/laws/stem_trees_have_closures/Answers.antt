use Rattle.pm_triclose.proofs.SomeClosures.{balanced_closes, tree_balances}
use Rattle.pm_triclose.proofs.laws.stem_trees_have_closures.Goals as goal

pub returns : goal.returns
returns c = record { balanced = balanced_closes; planted = tree_balances }
