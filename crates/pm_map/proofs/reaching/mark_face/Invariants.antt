use Rattle.std.proofs.Common.{not, false, length, get_or}
use Rattle.pm_perm.specs.Count.{count_below}
use Rattle.pm_map.specs.steps.Search.{WalksFace}
use Rattle.pm_map.proofs.reaching.mark_face.Given as goal

abbrev pub invariant-walk : goal.invariant-walk
invariant-walk l = WalksFace l.sigma l.start l.dart l.fn.marks l.fn.stack.items l.marks l.stack.items

abbrev pub decreases-walk : goal.decreases-walk
decreases-walk l = count_below (λ k. not (get_or l.marks k false)) (length l.sigma)
