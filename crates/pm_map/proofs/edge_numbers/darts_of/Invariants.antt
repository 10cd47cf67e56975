use Rattle.pm_map.proofs.EdgeNumbering.{IsNumbered}
use Rattle.pm_map.proofs.edge_numbers.darts_of.Given as goal

abbrev pub invariant-loop-place : goal.invariant-loop-place
invariant-loop-place l = IsNumbered l.twins l.darts.items l.edges l.place
