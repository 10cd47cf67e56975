use Rattle.std.proofs.Common.{rules}
use Rattle.pm_perm.proofs.LeadersWritten.{leading-start, leading-more, leading-end, unwritten-falls}
use Rattle.pm_perm.proofs.leading.lead_cycle.Goals as goal

pub walk-init : goal.walk-init
walk-init c = leading-start _ _ _ c.requires.permutation c.requires.leaders_length c.requires.inside c.requires.led c.requires.none

pub walk-smaller : goal.walk-smaller
walk-smaller c = unwritten-falls _ _ _ _ c.walk.invariant (search rules)

pub walk-preserved : goal.walk-preserved
walk-preserved c = leading-more _ _ _ _ c.walk.invariant

pub returns : goal.returns
returns c = leading-end _ _ _ _ c.walk.invariant (search rules)
