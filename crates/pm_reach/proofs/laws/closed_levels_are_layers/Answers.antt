use Rattle.pm_reach.proofs.OneLayers.{closed_layers}
use Rattle.pm_reach.proofs.laws.closed_levels_are_layers.Goals as goal

pub returns : goal.returns
returns c = closed_layers
