use Rattle.pm_reach.proofs.OneLayers.{one_layers}
use Rattle.pm_reach.proofs.SomeLayers.{each_map_has_layers}
use Rattle.pm_reach.proofs.laws.map_has_one_layers.Goals as goal

pub returns-clause-exists : goal.returns-clause-exists
returns-clause-exists c = each_map_has_layers

pub returns-clause-one : goal.returns-clause-one
returns-clause-one c = one_layers
