use Rattle.std.proofs.Common.{arith, rules}
use Rattle.pm_perm.proofs.Walks.{walking-start, walking-more, walking-end, unmarked-falls}
use Rattle.pm_perm.proofs.counting.mark_cycle.Goals as goal

pub walk-init : goal.walk-init
walk-init c = walking-start _ _ _ _ c.requires.permutation c.requires.inside c.requires.marked c.requires.unmarked

pub walk-smaller : goal.walk-smaller
walk-smaller c = unmarked-falls _ _ _ (omega (arith, c.walk.invariant.within)) (search rules) (search rules)

pub walk-preserved : goal.walk-preserved
walk-preserved c = walking-more _ _ _ _ (search rules) c.walk.invariant

pub returns : goal.returns
returns c = walking-end _ _ _ _ _ c.walk.invariant (search rules)
