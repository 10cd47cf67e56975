use Rattle.std.proofs.Common.{◌≡◌, ◌++◌, ◌*◌, ◌-◌, suc, take, map}
use Rattle.pm_trees.specs.Binomial.{choose}
use Rattle.pm_trees.specs.Pairs.{edges_of}
use Rattle.pm_objects.specs.Codes.{code_bounds}
use Rattle.pm_euler.specs.Objects.{halves_of}
use Rattle.pm_euler.proofs.bounds.eulerian_choice_limits.Given as goal

abbrev pub invariant-loop-pair : goal.invariant-loop-pair
invariant-loop-pair l = l.limits.items ≡ code_bounds (suc (edges_of l.profile)) ++ map (λ half. choose (2 * half - 1) half) (halves_of (take l.pair-index l.pair-items))
