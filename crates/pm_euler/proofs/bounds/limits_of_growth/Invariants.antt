use Rattle.std.proofs.Common.{◌≡◌, ◌++◌, ◌-◌}
use Rattle.pm_euler.specs.Bounds.{growth_bounds}
use Rattle.pm_euler.proofs.bounds.limits_of_growth.Given as goal

abbrev pub invariant-loop-grown : goal.invariant-loop-grown
invariant-loop-grown l = l.limits.items ++ growth_bounds l.grown (l.count - l.grown) ≡ growth_bounds 0 l.count
