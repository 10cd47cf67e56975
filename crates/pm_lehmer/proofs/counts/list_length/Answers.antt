use Rattle.std.proofs.Common.{arith}
use Rattle.pm_lehmer.proofs.Halving.{IsPowerOfTwo-fits}
use Rattle.pm_lehmer.proofs.counts.list_length.Goals as goal

pub returns-clause-few : goal.returns-clause-few
returns-clause-few c = IsPowerOfTwo-fits c.next_power_of_two.result c.next_power_of_two.ensures.power (omega arith)
