use Rattle.pm_map.proofs.EndsLemmas.{AreListedBelow}
use Rattle.pm_map.proofs.simple.ends_list.Given as goal

abbrev pub invariant-darts : goal.invariant-darts
invariant-darts l = AreListedBelow l.leaders l.dart l.ends.items
