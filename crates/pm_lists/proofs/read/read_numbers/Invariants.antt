use Rattle.std.proofs.Common.{[], length, ◌-◌}
use Rattle.pm_lists.specs.steps.Numbers.{IsReadingNumbers}
use Rattle.pm_lists.proofs.read.read_numbers.Given as goal

abbrev pub invariant-numbers : goal.invariant-numbers
invariant-numbers l = IsReadingNumbers [] l.bytes l.place l.values.items

abbrev pub decreases-numbers : goal.decreases-numbers
decreases-numbers l = length l.bytes - l.place
