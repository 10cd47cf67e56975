use Rattle.pm_tri.proofs.ClosingLaws.{at_side, closes_or_free, in_one_run, in_some_run, only_ahead, only_once, only_within}
use Rattle.pm_tri.proofs.RunLevels.{in_other_run, in_plants_run}
use Rattle.pm_tri.proofs.run_laws.stems_close_at_sides.Goals as goal

pub returns : goal.returns
returns c = record {
  each = closes_or_free;
  side = at_side;
  once = only_once;
  ahead = only_ahead;
  within = only_within;
  some_run = in_some_run;
  one_run = in_one_run;
  plants_run = in_plants_run;
  other_run = in_other_run;
}
