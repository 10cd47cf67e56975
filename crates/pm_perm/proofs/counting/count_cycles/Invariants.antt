use Rattle.pm_perm.proofs.Walks.{IsCounting}
use Rattle.pm_perm.proofs.counting.count_cycles.Given as goal

abbrev pub invariant-starts : goal.invariant-starts
invariant-starts l = IsCounting l.values l.start l.marks l.count
