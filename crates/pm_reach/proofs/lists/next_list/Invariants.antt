use Rattle.pm_reach.specs.steps.Walking.{IsCarried}
use Rattle.pm_reach.proofs.lists.next_list.Given as goal

abbrev pub invariant-places : goal.invariant-places
invariant-places l = IsCarried l.bounds l.fn.values l.values l.left

abbrev pub decreases-places : goal.decreases-places
decreases-places l = l.left
