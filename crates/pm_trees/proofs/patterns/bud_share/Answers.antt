use Rattle.pm_trees.proofs.Binomials.{share_at}
use Rattle.pm_trees.proofs.patterns.bud_share.Goals as goal

pub returns : goal.returns
returns c = rw c.scaled.ensures (share_at _ _ _ c.requires.some c.requires.slots c.requires.total)
