use Rattle.std.proofs.Common.{ℕ, ◌<◌}
use Rattle.pm_map.specs.steps.Marks.{IsMarked}
use Rattle.pm_map.proofs.marks.least_unmarked.Given as goal

abbrev pub invariant-scan : goal.invariant-scan
invariant-scan l = (k : ℕ) → k < l.place → IsMarked l.marks k
