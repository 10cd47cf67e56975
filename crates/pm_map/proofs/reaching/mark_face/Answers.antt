use Rattle.std.proofs.Common.{rules, arith}
use Rattle.pm_perm.proofs.Walks.{unmarked-falls}
use Rattle.pm_map.proofs.SearchLemmas.{WalksFace-step}
use Rattle.pm_map.proofs.reaching.mark_face.Goals as goal

pub walk-smaller : goal.walk-smaller
walk-smaller c = unmarked-falls _ _ _ c.walk.invariant.within (omega (arith, c.walk.invariant.within, c.walk.invariant.size, c.requires.size)) (search rules)

pub walk-preserved : goal.walk-preserved
walk-preserved c =
    rw c.in_ok-push.ensures.items
    (rw c.twin_of.ensures (WalksFace-step _ _ _ _ _ _ _ c.requires.even c.requires.permutation c.requires.size c.walk.invariant (search rules)))
