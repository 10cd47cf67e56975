use Rattle.std.proofs.Common.{◌+◌}
use Rattle.std.specs.Int.{IsPowerOfTwo}
use Rattle.pm_lehmer.proofs.Halving.{IsPutDownTo}
use Rattle.pm_lehmer.proofs.counts.put.Given as goal

abbrev pub invariant-halving : goal.invariant-halving
invariant-halving l = record { down : IsPutDownTo l.initial.counts l.counts l.number l.many l.low (l.low + l.width) l.smaller; power : IsPowerOfTwo l.width }

abbrev pub decreases-halving : goal.decreases-halving
decreases-halving l = l.width
