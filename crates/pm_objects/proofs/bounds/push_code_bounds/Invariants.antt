use Rattle.std.proofs.Common.{◌≡◌, ◌++◌, ◌-◌}
use Rattle.pm_objects.specs.Codes.{code_bounds}
use Rattle.pm_objects.proofs.bounds.push_code_bounds.Given as goal

abbrev pub invariant-loop-place : goal.invariant-loop-place
invariant-loop-place l = l.bounds.items ++ code_bounds (l.length - l.place) ≡ l.fn.bounds.items ++ code_bounds l.length
