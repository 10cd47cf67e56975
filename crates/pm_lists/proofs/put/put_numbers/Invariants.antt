use Rattle.pm_lists.specs.steps.Numbers.{ArePut}
use Rattle.pm_lists.proofs.put.put_numbers.Given as goal

abbrev pub invariant-numbers : goal.invariant-numbers
invariant-numbers l = ArePut l.values l.piece l.left l.start

abbrev pub decreases-numbers : goal.decreases-numbers
decreases-numbers l = l.left
