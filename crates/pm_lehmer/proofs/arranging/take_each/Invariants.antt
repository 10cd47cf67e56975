use Rattle.std.proofs.Common.{take}
use Rattle.pm_lehmer.proofs.Arranged.{IsArrangedUpTo}
use Rattle.pm_lehmer.proofs.arranging.take_each.Given as goal

abbrev pub invariant-places : goal.invariant-places
invariant-places l = IsArrangedUpTo l.code l.words l.counts (take l.place l.arrangement)
