use Rattle.std.proofs.Common.{arith}
use Rattle.pm_trees.proofs.Binomials.{central_start, central_next}
use Rattle.pm_trees.proofs.patterns.pattern_count.Goals as goal

pub halves-init : goal.halves-init
halves-init c = central_start

pub halves-preserved : goal.halves-preserved
halves-preserved c = rw c.scaled-count.ensures (central_next _ _ c.halves.auto.i c.halves.invariant)

pub scaled-count-requires-clause-fits : goal.scaled-count-requires-clause-fits
scaled-count-requires-clause-fits c = (central_next _ _ c.halves.auto.i c.halves.invariant).small (let few = c.requires.few in omega arith)
