use Rattle.pm_map.specs.steps.Tables.{AreDivided}
use Rattle.pm_map.proofs.degree_table.divide.Given as goal

abbrev pub invariant-places : goal.invariant-places
invariant-places l = AreDivided l.initial.table l.table l.place
