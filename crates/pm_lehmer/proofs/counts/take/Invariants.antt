use Rattle.std.proofs.Common.{◌+◌}
use Rattle.std.specs.Int.{IsPowerOfTwo}
use Rattle.pm_lehmer.proofs.Halving.{IsTakenDownTo}
use Rattle.pm_lehmer.proofs.counts.take.Given as goal

abbrev pub invariant-halving : goal.invariant-halving
invariant-halving l = record { down : IsTakenDownTo l.initial.counts l.counts l.low (l.low + l.width) l.rank l.left; power : IsPowerOfTwo l.width }

abbrev pub decreases-halving : goal.decreases-halving
decreases-halving l = l.width
