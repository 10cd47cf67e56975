use Rattle.pm_perm.proofs.Checks.{IsChecked}
use Rattle.pm_perm.proofs.checking.is_permutation.Given as goal

abbrev pub invariant-values : goal.invariant-values
invariant-values l = IsChecked l.values l.value-index l.marks l.all_fresh
