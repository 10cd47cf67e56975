use Rattle.std.proofs.Common.{◌≡◌, take}
use Rattle.pm_objects.specs.Objects.{arities_of}
use Rattle.pm_objects.proofs.ranges.arities_of.Given as goal

abbrev pub invariant-loop-range : goal.invariant-loop-range
invariant-loop-range l = l.arities.items ≡ arities_of (take l.range-index l.ranges)
