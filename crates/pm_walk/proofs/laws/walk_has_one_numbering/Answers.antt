use Rattle.pm_walk.proofs.OneWalk.{walked_is_one}
use Rattle.pm_walk.proofs.laws.walk_has_one_numbering.Goals as goal

pub returns : goal.returns
returns c = walked_is_one
