use Rattle.pm_map.specs.steps.Sizes.{IsSized}
use Rattle.pm_map.specs.steps.Sizes.{step_around}
use Rattle.pm_map.proofs.degrees.cycle_sizes.Given as goal

abbrev pub invariant-each : goal.invariant-each
invariant-each l = IsSized (step_around l.sigma l.around) l.out l.start
