use Rattle.std.proofs.Common.{not, false, length, get_or, slice_index}
use Rattle.pm_perm.specs.Count.{count_below}
use Rattle.pm_perm.proofs.Walks.{IsWalking}
use Rattle.pm_perm.proofs.counting.mark_cycle.Given as goal

abbrev pub invariant-walk : goal.invariant-walk
invariant-walk l = IsWalking (length l.values) (slice_index l.values) l.start l.at (λ k. get_or l.marks k false)

abbrev pub decreases-walk : goal.decreases-walk
decreases-walk l = count_below (λ k. not (get_or l.marks k false)) (length l.values)
