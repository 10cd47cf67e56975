-- The clauses are the laws of the classes.
use Rattle.pm_map.proofs.ClassesKept.{bipartite_kept, eulerian_kept, general_kept, quartic_kept, triangulation_kept}
use Rattle.pm_map.proofs.laws.classes_are_kept.Goals as goal

pub returns-clause-quartic : goal.returns-clause-quartic
returns-clause-quartic c = quartic_kept

pub returns-clause-general : goal.returns-clause-general
returns-clause-general c = general_kept

pub returns-clause-eulerian : goal.returns-clause-eulerian
returns-clause-eulerian c = eulerian_kept

pub returns-clause-bipartite : goal.returns-clause-bipartite
returns-clause-bipartite c = bipartite_kept

pub returns-clause-triangulation : goal.returns-clause-triangulation
returns-clause-triangulation c = triangulation_kept
