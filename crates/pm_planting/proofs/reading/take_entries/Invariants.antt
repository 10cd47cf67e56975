use Rattle.std.proofs.Common.{vec_len}
use Rattle.pm_planting.proofs.ReadingSteps.{IsTaking}
use Rattle.pm_planting.proofs.reading.take_entries.Given as goal

abbrev pub invariant-entries : goal.invariant-entries
invariant-entries l = IsTaking l.fn.entries.items l.entries.items l.prefix.items

abbrev pub decreases-entries : goal.decreases-entries
decreases-entries l = vec_len l.entries
