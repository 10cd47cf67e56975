use Rattle.pm_map.proofs.EndsLemmas.{IsLeastNeighbour}
use Rattle.pm_map.proofs.simple.least_double.Given as goal

abbrev pub invariant-entries : goal.invariant-entries
invariant-entries l = IsLeastNeighbour l.ends l.place l.least
