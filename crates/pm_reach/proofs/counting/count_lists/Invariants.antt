use Rattle.std.proofs.Common.{length}
use Rattle.pm_reach.specs.steps.Counting.{IsCounting, lists_left}
use Rattle.pm_reach.proofs.counting.count_lists.Given as goal

abbrev pub invariant-lists : goal.invariant-lists
invariant-lists g l = IsCounting l.bounds (g.C.MapClass.samples l.size) l.more l.choices.items l.numbers.entries

abbrev pub decreases-lists : goal.decreases-lists
decreases-lists g l = length (lists_left l.more l.bounds l.choices.items)
