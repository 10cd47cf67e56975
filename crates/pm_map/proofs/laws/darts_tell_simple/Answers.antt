-- The clause is the law of simple maps.
use Rattle.pm_map.proofs.SimpleDarts.{darts_tell_simple}
use Rattle.pm_map.proofs.laws.darts_tell_simple.Goals as goal

pub returns : goal.returns
returns c = darts_tell_simple
