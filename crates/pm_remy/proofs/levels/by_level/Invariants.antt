use Rattle.std.proofs.Common.{◌-◌, length}
use Rattle.pm_remy.specs.Tree.{Tree}
use Rattle.pm_remy.specs.steps.Linked.{IsHeld}
use Rattle.pm_remy.proofs.Numbering.{forks_of, AreMet, AreQueued}
use Rattle.pm_remy.proofs.levels.by_level.Given as goal

abbrev pub invariant-forks : goal.invariant-forks
invariant-forks l =
    record {
      met : AreMet l.links l.forks.items l.leveled.items l.met;
      waiting : (t : Tree) → IsHeld l.links t → AreQueued l.links l.forks.items l.met (forks_of t);
    }

abbrev pub decreases-forks : goal.decreases-forks
decreases-forks l = length l.links - l.met
