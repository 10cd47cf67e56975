use Rattle.pm_tri.proofs.WholeTree.{closes_alike, other_run_closes, plants_run_closes}
use Rattle.pm_tri.proofs.whole_laws.whole_trees_close_ahead.Goals as goal

pub returns : goal.returns
returns c = record { alike = closes_alike; plants_run = plants_run_closes; other_run = other_run_closes }
