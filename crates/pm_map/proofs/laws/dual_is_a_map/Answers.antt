-- The clauses are the laws of duals.
use Rattle.pm_map.proofs.CarriedStructure.{dual_is_structure}
use Rattle.pm_map.proofs.DualMaps.{dual_is_rooted, dual_exchanges_counts, dual_twice_is_same, duals_tell, face_degree_counts_darts}
use Rattle.pm_map.proofs.laws.dual_is_a_map.Goals as goal

pub returns-clause-structure : goal.returns-clause-structure
returns-clause-structure c = dual_is_structure

pub returns-clause-rooted : goal.returns-clause-rooted
returns-clause-rooted c = dual_is_rooted

pub returns-clause-counts : goal.returns-clause-counts
returns-clause-counts c = dual_exchanges_counts

pub returns-clause-degrees : goal.returns-clause-degrees
returns-clause-degrees c = face_degree_counts_darts

pub returns-clause-twice : goal.returns-clause-twice
returns-clause-twice c = dual_twice_is_same

pub returns-clause-tells : goal.returns-clause-tells
returns-clause-tells c = duals_tell
