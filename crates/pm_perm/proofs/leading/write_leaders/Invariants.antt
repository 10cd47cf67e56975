use Rattle.pm_perm.specs.steps.Leading.{IsLedBelow}
use Rattle.pm_perm.proofs.leading.write_leaders.Given as goal

abbrev pub invariant-starts : goal.invariant-starts
invariant-starts l = IsLedBelow l.values l.start l.leaders
