use Rattle.pm_tri.proofs.Prefixes.{balanced_below}
use Rattle.pm_tri.proofs.RunStarts.{two_runs}
use Rattle.pm_tri.proofs.RunTurns.{run_start_balances, run_starts_turned}
use Rattle.pm_tri.proofs.run_laws.stem_trees_have_two_runs.Goals as goal

pub returns : goal.returns
returns c = record {
  two = two_runs;
  turned = run_starts_turned;
  planted = run_start_balances;
  balanced = balanced_below;
}
