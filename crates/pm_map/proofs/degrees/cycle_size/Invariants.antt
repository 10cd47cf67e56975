use Rattle.std.proofs.Common.{◌-◌, length}
use Rattle.pm_map.proofs.CycleSizes.{IsAway}
use Rattle.pm_map.specs.steps.Sizes.{step_around}
use Rattle.pm_map.proofs.degrees.cycle_size.Given as goal

abbrev pub invariant-walk : goal.invariant-walk
invariant-walk l = IsAway (step_around l.sigma l.around) l.start l.size l.next

abbrev pub decreases-walk : goal.decreases-walk
decreases-walk l = length l.sigma - l.size
