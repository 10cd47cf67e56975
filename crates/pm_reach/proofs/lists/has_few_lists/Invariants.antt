use Rattle.std.proofs.Common.{◌≤◌}
use Rattle.pm_reach.specs.declared.lists.TheConstants.{MOST_LISTS}
use Rattle.pm_reach.specs.steps.Walking.{IsMultiplied}
use Rattle.pm_reach.proofs.lists.has_few_lists.Given as goal

abbrev pub invariant-loop-bound : goal.invariant-loop-bound
invariant-loop-bound l = record { few : l.count ≤ MOST_LISTS; multiplied : IsMultiplied l.bounds l.bound-index l.count }
