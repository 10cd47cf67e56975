use Rattle.pm_remy.specs.Growth.{grown_by}
use Rattle.pm_remy.specs.steps.Linked.{ArePlaces}
use Rattle.pm_remy.proofs.growth.add_leaves.Given as goal

abbrev pub invariant-loop-k : goal.invariant-loop-k
invariant-loop-k l = ArePlaces l.places (grown_by l.choices l.k)
