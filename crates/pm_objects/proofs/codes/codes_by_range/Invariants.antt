use Rattle.std.proofs.Common.{◌≡◌, ℕ, take}
use Rattle.std.specs.Prelude.{flat_map}
use Rattle.pm_lehmer.specs.Lehmer.{code_of}
use Rattle.pm_objects.specs.Objects.{objects_of}
use Rattle.pm_objects.proofs.codes.codes_by_range.Given as goal

abbrev pub invariant-loop-range : goal.invariant-loop-range
invariant-loop-range l = l.codes.items ≡ flat_map (λ (r : ℕ × ℕ). code_of (objects_of l.arities r.0 l.objects)) (take l.range-index l.ranges)
