use Rattle.pm_lists.specs.steps.Numbers.{ArePut}
use Rattle.pm_mapfile.proofs.write.put_darts.Given as goal

abbrev pub invariant-darts : goal.invariant-darts
invariant-darts l = ArePut l.darts l.piece l.left l.start

abbrev pub decreases-darts : goal.decreases-darts
decreases-darts l = l.left
