use Rattle.std.proofs.Common.{◌≡◌, take}
use Rattle.pm_euler.specs.Objects.{ranges_of}
use Rattle.pm_euler.proofs.objects.ranges_of.Given as goal

abbrev pub invariant-loop-pair : goal.invariant-loop-pair
invariant-loop-pair l = l.ranges.items ≡ ranges_of (take l.pair-index l.pair-items)
