use Rattle.std.proofs.Common.{ℕ, ◌<◌, slice_index}
use Rattle.pm_map.specs.ClassRules.{IsAdmitted}
use Rattle.pm_map.proofs.admitted.Degrees.least_other.Given as goal

abbrev pub invariant-sizes : goal.invariant-sizes
invariant-sizes l = (k : ℕ) → k < l.place → IsAdmitted l.self (slice_index l.sizes k)
